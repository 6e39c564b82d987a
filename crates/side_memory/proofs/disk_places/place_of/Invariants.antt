use Rattle.std.proofs.Common.{◌≢◌, ◌<◌, ℕ, get_or}
use Rattle.side_memory.specs.declared.disk_places.DiskPlace.{DiskPlace}
use Rattle.side_memory.proofs.disk_places.place_of.Given as goal

-- no place so far is one of the path
abbrev pub invariant-loop-i : goal.invariant-loop-i
invariant-loop-i l = (k : ℕ) (d : DiskPlace) → k < l.i → (get_or l.places k d).path ≢ l.path
