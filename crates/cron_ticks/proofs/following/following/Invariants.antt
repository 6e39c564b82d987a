use Rattle.cron_ticks.specs.Following.{schedule, IsFoundBelow}
use Rattle.cron_ticks.proofs.following.following.Given as goal

abbrev pub invariant-loop-at : goal.invariant-loop-at
invariant-loop-at l = IsFoundBelow (schedule l.fn.periods l.fn.start) l.fn.due l.fn.place l.at l.first
