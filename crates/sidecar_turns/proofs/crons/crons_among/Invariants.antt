use Rattle.std.proofs.Common.{◌≡◌, length, map, take}
use Rattle.sidecar_turns.specs.Crons.{AreWithinLimits, HaveGates, cron_by, crons_among}
use Rattle.sidecar_turns.proofs.crons.crons_among.Given as goal

abbrev pub invariant-loop-place : goal.invariant-loop-place
invariant-loop-place l = record {
  exact : l.crons.items ≡ map (cron_by l.policies) (crons_among (take l.place l.components));
  within : AreWithinLimits l.crons.items;
  breakers : HaveGates (length l.policies.breakers) l.crons.items;
}
