use Rattle.std.proofs.Common.{ap, sym, ◌∙◌}
use Rattle.std.specs.Prelude.{option_copied}
use Rattle.std.proofs.lemmas.Result.{on_ok_weaker}
use Rattle.cloud_events.proofs.Results.{err_weaker}
use Rattle.cloud_events.proofs.Judged.{good_time, no_time, bad_time}
use Rattle.cloud_events.proofs.judge.judge_time.Goals as goal

pub returns-in-Some-clause-ok : goal.returns-in-Some-clause-ok
returns-in-Some-clause-ok c = on_ok_weaker c.time_of.result (λ h. good_time c.args.items.now c.in-Some.item.now (ap option_copied (sym c.in-Some.is) ∙ c.find.ensures) h) c.time_of.ensures.ok

pub returns-in-Some-clause-err : goal.returns-in-Some-clause-err
returns-in-Some-clause-err c = err_weaker c.time_of.result _ _ (λ e h. bad_time c.args.items.now c.in-Some.item.now e (ap option_copied (sym c.in-Some.is) ∙ c.find.ensures) h) c.time_of.ensures.err

pub returns-in-None-clause-ok : goal.returns-in-None-clause-ok
returns-in-None-clause-ok c = no_time c.args.items.now (ap option_copied (sym c.in-None.is) ∙ c.find.ensures)
