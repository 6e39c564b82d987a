use Rattle.std.proofs.Common.{sym, subst}
use Rattle.std.proofs.lemmas.List.Elements.{All-push}
use Rattle.retry_core.specs.Bound.{IsWithinLimit}
use Rattle.sidecar_turns.specs.Crons.{AreWithinLimits}
use Rattle.sidecar_turns.specs.declared.cron.Cron.{Cron}
use Rattle.sidecar_turns.proofs.crons.add_cron.Goals as goal

pub returns-clause-within : goal.returns-clause-within
returns-clause-within c all = subst AreWithinLimits (sym c.in_ok-push.ensures.items) (All-push (λ (cron : Cron). IsWithinLimit cron.bound) c.args.crons.now.items c.in_ok-cron_of.field-0 all c.in_ok-cron_of.ensures.within)
