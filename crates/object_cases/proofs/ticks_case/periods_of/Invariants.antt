use Rattle.std.proofs.Common.{◌≤◌, All, length}
use Rattle.cron_ticks.specs.Schedule.{IsPeriod}
use Rattle.object_cases.proofs.ticks_case.periods_of.Given as goal

abbrev pub invariant-loop-word : goal.invariant-loop-word
invariant-loop-word l = record {
  each : All IsPeriod l.periods;
  few : length l.periods ≤ 1000;
}
