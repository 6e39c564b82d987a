-- Which byte may stand behind which in UTF-8 (RFC 3629, section 4).
use Rattle.std.specs.Prelude.{◌≡◌, ◌⊎◌, ℕ, suc, ◌<◌, ◌≤◌, Bool, cond, List, slice_index}

-- a byte may stand behind these three, of which `first` is the nearest
pub record Follows (third second first byte : ℕ) : Type 0 where
  -- within a character of two bytes or more, of three or more, and of four
  pub in_two : 0xc0 ≤ first → (0x80 ≤ byte) × (byte < 0xc0)
  pub in_three : 0xe0 ≤ second → (0x80 ≤ byte) × (byte < 0xc0)
  pub in_four : 0xf0 ≤ third → (0x80 ≤ byte) × (byte < 0xc0)
  -- where a character begins
  pub begins : first < 0xc0 → second < 0xe0 → third < 0xf0 → (byte < 0x80) ⊎ ((0xc2 ≤ byte) × (byte < 0xf5))
  -- the shortest form alone, no surrogate, and nothing past U+10FFFF
  pub behind_e0 : first ≡ 0xe0 → 0xa0 ≤ byte
  pub behind_ed : first ≡ 0xed → byte < 0xa0
  pub behind_f0 : first ≡ 0xf0 → 0x90 ≤ byte
  pub behind_f4 : first ≡ 0xf4 → byte < 0x90

-- so does each byte before place `end` that has three before it
abbrev pub AreInOrder : List ℕ → ℕ → Type 0
AreInOrder bytes end = (k : ℕ) → suc (suc (suc k)) < end → Follows (slice_index bytes k) (slice_index bytes (suc k)) (slice_index bytes (suc (suc k))) (slice_index bytes (suc (suc (suc k))))

-- a lane of a comparison
abbrev pub mark : Bool → ℕ
mark b = cond b 255 0
