use Rattle.std.proofs.Common.{◌-◌, ◌≤◌, ℕ, List, length, drop}
use Rattle.http_chunks.specs.ContentSteps.{IsInChunks, IsBounded}
use Rattle.http_chunks.specs.LinePlaces.{IsLooked}
use Rattle.http_chunks.proofs.content.read_content.Given as goal

abbrev pub invariant-loop-found : goal.invariant-loop-found
invariant-loop-found l = record {
  within : l.at ≤ length l.text;
  bounded : IsBounded l.body;
  looked : IsLooked (drop l.initial.at l.initial.text) l.initial.body.left l.initial.body.looked
      → IsLooked (drop l.at l.text) l.body.left l.body.looked;
  kept : (all : List ℕ) → IsInChunks all (drop l.initial.at l.initial.text) l.initial.body.bytes l.initial.body.left
      → IsInChunks all (drop l.at l.text) l.body.bytes l.body.left;
}

abbrev pub decreases-loop-found : goal.decreases-loop-found
decreases-loop-found l = length l.text - l.at
