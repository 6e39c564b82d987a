use Rattle.std.proofs.Common.{◌≡◌, ◌≤◌, length, map, take, All}
use Rattle.cron_ticks.specs.Schedule.{IsPeriod}
use Rattle.sidecar_turns.specs.Crons.{crons_among, period_of}
use Rattle.sidecar_turns.proofs.crons.periods_of.Given as goal

abbrev pub invariant-loop-place : goal.invariant-loop-place
invariant-loop-place l = record {
  exact : l.periods ≡ map period_of (crons_among (take l.place l.components));
  each : All IsPeriod l.periods;
  few : length l.periods ≤ l.place;
}
