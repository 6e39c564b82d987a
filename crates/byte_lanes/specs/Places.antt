-- Where the bytes of a text first pass a test.
use Rattle.std.specs.Prelude.{◌≡◌, ℕ, ◌<◌, ◌≤◌, Bool, true, false, List, length, slice_index, Option, MatchOption}

-- no byte from place `from` on and before place `end` passes
abbrev pub NonePasses : (ℕ → Bool) → List ℕ → ℕ → ℕ → Type 0
NonePasses test bytes from end = (k : ℕ) → from ≤ k → k < end → test (slice_index bytes k) ≡ false

-- `at` is the least place from `from` on whose byte passes
pub record IsLeastPlace (test : ℕ → Bool) (bytes : List ℕ) (from at : ℕ) : Type 0 where
  pub low : from ≤ at
  pub within : at < length bytes
  pub passes : test (slice_index bytes at) ≡ true
  pub before : NonePasses test bytes from at

-- `found` is that place, and None where no byte from `from` on passes
abbrev pub IsFirstPlace : (ℕ → Bool) → List ℕ → ℕ → Option ℕ → Type 0
IsFirstPlace test bytes from found =
    MatchOption found (NonePasses test bytes from (length bytes)) (IsLeastPlace test bytes from)
