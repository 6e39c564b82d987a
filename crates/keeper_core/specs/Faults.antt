-- How a keeper's count of faults goes on.
use Rattle.std.specs.Prelude.{◌≡◌, ◌≤◌, ℕ, Bool, true, false, List, [], ◌∷◌}

-- the count does not fall, and where no commit can fail it stays
pub record Rises (may_fail : Bool) (before after : ℕ) : Type 0 where
  pub no_fewer : before ≤ after
  pub steady : may_fail ≡ false → after ≡ before

-- some commit is listed
abbrev pub has_some : List ℕ → Bool
has_some [] = false
has_some (place ∷ places) = true
