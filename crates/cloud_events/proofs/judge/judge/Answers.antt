use Rattle.std.proofs.Common.{ap, sym, ◌∙◌}
use Rattle.std.specs.Prelude.{option_copied}
use Rattle.cloud_events.proofs.Results.{err_weaker}
use Rattle.cloud_events.proofs.Scanned.{all_right, first_is}
use Rattle.cloud_events.proofs.Judged.{attribute_fault, data_fault, events_are}
use Rattle.cloud_events.proofs.judge.judge.Goals as goal

pub returns-in-Some-clause-err : goal.returns-in-Some-clause-err
returns-in-Some-clause-err c rise =
    attribute_fault c.args.items.now c.in-Some.item.now c.no_attribute.result (first_is c.args.items.now c.in-Some.item.now rise (ap option_copied (sym c.in-Some.is) ∙ c.first_wrong.ensures)) c.no_attribute.ensures

pub returns-in-None-clause-ok : goal.returns-in-None-clause-ok
returns-in-None-clause-ok c =
    events_are c.args.items.now c.judge_data.result (all_right c.args.items.now (ap option_copied (sym c.in-None.is) ∙ c.first_wrong.ensures)) c.judge_data.ensures.one c.judge_data.ensures.base c.judge_data.ensures.time

pub returns-in-None-clause-err : goal.returns-in-None-clause-err
returns-in-None-clause-err c rise =
    err_weaker c.judge_data.result _ _ (λ error h. data_fault c.args.items.now error (all_right c.args.items.now (ap option_copied (sym c.in-None.is) ∙ c.first_wrong.ensures)) h) c.judge_data.ensures.err
