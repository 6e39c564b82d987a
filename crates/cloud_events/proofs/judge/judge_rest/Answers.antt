use Rattle.std.proofs.Common.{subst}
use Rattle.std.specs.Prelude.{MatchOption}
use Rattle.cloud_events.specs.Judge.{IsGoodBase, IsBadBase}
use Rattle.cloud_events.proofs.Results.{err_weaker, ok_if}
use Rattle.cloud_events.proofs.Judged.{told, time_fault}
use Rattle.cloud_events.proofs.judge.judge_rest.Goals as goal

pub returns-in-Some-clause-err : goal.returns-in-Some-clause-err
returns-in-Some-clause-err c =
    (c.requires.one, subst (λ bad. MatchOption bad (IsGoodBase (told c.args.items.now)) (IsBadBase (told c.args.items.now))) c.in-Some.is c.requires.base)

pub returns-in-None-clause-base : goal.returns-in-None-clause-base
returns-in-None-clause-base c = ok_if c.judge_time.result (subst (λ bad. MatchOption bad (IsGoodBase (told c.args.items.now)) (IsBadBase (told c.args.items.now))) c.in-None.is c.requires.base)

pub returns-in-None-clause-err : goal.returns-in-None-clause-err
returns-in-None-clause-err c =
    err_weaker c.judge_time.result _ _ (λ e h. time_fault c.args.items.now e c.requires.one (subst (λ bad. MatchOption bad (IsGoodBase (told c.args.items.now)) (IsBadBase (told c.args.items.now))) c.in-None.is c.requires.base) h) c.judge_time.ensures.err
