use Rattle.std.proofs.Common.{◌+◌, ap}
use Rattle.state_core.proofs.batch.Batch.put.Goals as goal

pub returns : goal.returns
returns c = record { changes = c.in_ok-add.ensures.changes; next_is = ap (λ n. n + 1) c.in_ok-add.ensures.next_is; versions = c.in_ok-add.ensures.versions }
