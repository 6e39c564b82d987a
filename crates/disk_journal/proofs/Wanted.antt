-- What wanted bytes show at the front of a window.
use Rattle.std.proofs.Common.{◌≡◌, ◌⊎◌, inl, inr, ℕ, ◌+◌, ◌-◌, ◌^◌, ◌≤◌, List, ◌++◌, length, ap, subst, arith, length-append}
use Rattle.disk_journal.specs.Parsing.{Suffices}
use Rattle.disk_journal.specs.Refusal.{IsPart}

-- a part of a record for which enough is held ends the file
pub ends_there : (held now more : List ℕ) (wanted was place before size : ℕ) → (9 ≤ length held) ⊎ (was + length held ≡ before) → (wanted ≤ length now) ⊎ (place + length now ≡ size) → (wanted ≡ 2 ^ 64 - 1 → place + length now ≡ size) → now ≡ held ++ more
    → place ≡ was → size ≡ before → place + length now ≤ size → Suffices held wanted → IsPart now → place + length now ≡ size
ends_there held now more wanted was place before size first (inr all) greatest is same alike within suffices part = all
ends_there held now more wanted was place before size (inr all) (inl long) greatest is same alike within suffices part = omega (arith, all, same, alike, within, ap length is, length-append held more)
ends_there held now more wanted was place before size (inl nine) (inl long) greatest is same alike within suffices part = elim (suffices more nine (subst IsPart is part)) [
  | inl shorter ↦ absurd (omega (arith, long, ap length is, shorter))
  | inr no_number ↦ greatest no_number
]
