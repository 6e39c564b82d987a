use Rattle.std.proofs.Common.{◌≡◌, []}
use Rattle.disk_journal.specs.Opening.{opening_disk, opening_limit, left_of, HasGiven}
use Rattle.disk_journal.proofs.loading.copied.Given as goal

abbrev pub invariant-loop-bodies : goal.invariant-loop-bodies
invariant-loop-bodies g l = record {
  given : (first : g.row.D.Denot) → HasGiven g.D.Disk first l.fn.opening [] → HasGiven g.D.Disk first l.opening l.bodies;
  limit : opening_limit l.opening ≡ opening_limit l.fn.opening;
  no_fault : g.D.Disk.faults (opening_disk l.opening) ≡ g.D.Disk.faults (opening_disk l.fn.opening);
}

abbrev pub decreases-loop-bodies : goal.decreases-loop-bodies
decreases-loop-bodies g l = left_of l.opening
