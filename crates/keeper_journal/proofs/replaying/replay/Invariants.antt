use Rattle.std.proofs.Common.{◌≡◌, []}
use Rattle.disk_journal.specs.Opening.{opening_disk, opening_limit, left_of, HasGiven}
use Rattle.keeper_core.specs.Table.{fed}
use Rattle.keeper_journal.specs.Following.{HasFollowed}
use Rattle.keeper_journal.proofs.replaying.replay.Given as goal

abbrev pub invariant-loop-replay : goal.invariant-loop-replay
invariant-loop-replay g l = record {
  followed : (first : g.row.D.Denot) → HasGiven g.D.Disk first l.fn.opening [] → HasFollowed g.D.Disk first l.opening l.replay;
  hasher : l.replay.table.hasher ≡ fed l.fn.secret;
  limit : opening_limit l.opening ≡ opening_limit l.fn.opening;
  no_fault : g.D.Disk.faults (opening_disk l.opening) ≡ g.D.Disk.faults (opening_disk l.fn.opening);
}

abbrev pub decreases-loop-replay : goal.decreases-loop-replay
decreases-loop-replay g l = left_of l.opening
