-- The loop that sends bytes: what the sink got so far is a prefix of them.
use Rattle.std.proofs.Common.{◌≡◌, ◌≤◌, ℕ, List, length, take, Option}
use Rattle.side_world.specs.Told.{Told}

pub record SentSoFar (before now : Option (List ℕ)) (faults_before faults_now : ℕ) (bytes : List ℕ) (sent : ℕ) : Type 0 where
  pub within : sent ≤ length bytes
  pub told : Told before now (take sent bytes)
  pub no_fault : faults_now ≡ faults_before
