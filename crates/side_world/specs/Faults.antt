-- Counts of faults.
use Rattle.std.specs.Prelude.{◌≡◌, ◌≢◌, ◌⊎◌, ◌<◌, ℕ, ◌^◌, ◌-◌}

-- the count is greater than before, or stands at the end of its type
abbrev pub Rose : ℕ → ℕ → Type 0
Rose before after = (before < after) ⊎ (after ≡ 2 ^ 64 - 1)

-- the count rose exactly where the count of what came back isn't 0
pub record RoseWith (back before after : ℕ) : Type 0 where
  pub none : back ≡ 0 → after ≡ before
  pub some : back ≢ 0 → Rose before after
