use Rattle.state_core.proofs.Wholes.{alike_swept, alike_with_sweep}
use Rattle.state_core.proofs.laws.a_sweep_changes_no_live_row.Goals as goal

pub returns-clause-alone : goal.returns-clause-alone
returns-clause-alone c = λ rows next moment. alike_swept moment rows next

pub returns-clause-before_writes : goal.returns-clause-before_writes
returns-clause-before_writes c = λ held moment writes. alike_with_sweep held moment writes
