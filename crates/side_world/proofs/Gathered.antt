-- The loop that gathers the bytes of a source: what it has are the bytes that were taken.
use Rattle.std.proofs.Common.{◌≡◌, ◌≤◌, ℕ, List, length, Option}
use Rattle.side_world.specs.Told.{Told, Took}

pub record GatheredSoFar (before now taken_before taken_now : Option (List ℕ)) (faults_before faults_now : ℕ) (gathered : List ℕ) (limit : ℕ) : Type 0 where
  pub took : Took before now gathered
  pub taken : Told taken_before taken_now gathered
  pub within : length gathered ≤ limit
  pub no_fault : faults_now ≡ faults_before
