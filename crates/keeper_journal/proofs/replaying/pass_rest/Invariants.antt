use Rattle.std.proofs.Common.{◌≡◌, ◌++◌, ℕ, List}
use Rattle.disk_journal.specs.Opening.{opening_disk, opening_limit, left_of, HasGiven}
use Rattle.keeper_journal.proofs.replaying.pass_rest.Given as goal

abbrev pub invariant-loop-error : goal.invariant-loop-error
invariant-loop-error g l = record {
  given : (first : g.row.D.Denot) (bodies : List (List ℕ)) → HasGiven g.D.Disk first l.fn.opening bodies → (more : List (List ℕ)) × HasGiven g.D.Disk first l.opening (bodies ++ more);
  limit : opening_limit l.opening ≡ opening_limit l.fn.opening;
  no_fault : g.D.Disk.faults (opening_disk l.opening) ≡ g.D.Disk.faults (opening_disk l.fn.opening);
}

abbrev pub decreases-loop-error : goal.decreases-loop-error
decreases-loop-error g l = left_of l.opening
