use Rattle.sidecar_turns.proofs.Samples.{not_busy, not_so_late, not_so_long, not_so_soon}
use Rattle.sidecar_turns.proofs.laws.wrong_drains_are_refused.Goals as goal

pub returns-clause-busy : goal.returns-clause-busy
returns-clause-busy c = not_busy

pub returns-clause-late : goal.returns-clause-late
returns-clause-late c = not_so_late

pub returns-clause-soon : goal.returns-clause-soon
returns-clause-soon c = not_so_soon

pub returns-clause-long : goal.returns-clause-long
returns-clause-long c = not_so_long
