-- The header of a file.
use Rattle.std.proofs.Common.{◌≡◌, ◌≢◌, ◌⊎◌, inl, inr, ℕ, ◌+◌, ◌<◌, ◌≤◌, List, ◌++◌, length, take, drop, get_or, slice_index, Option, Some, None, sym, ◌∙◌, ap, arith, append_assoc, length-append, take-append-drop}
use Rattle.std.specs.Prelude.{IfSome}
use Rattle.std.proofs.lemmas.List.{take-append-le, get_or_append_left}
use Rattle.disk_journal.specs.Image.{header}
use Rattle.disk_journal.specs.Refusal.{IsTooShort, HasOtherHeader, IsNoJournal}

pub other_at : (bytes : List ℕ) (found : Option ℕ) → 16 ≤ length bytes → IfSome found (λ at. at < 16) → IfSome found (λ at. take at bytes ≡ take at header) → IfSome found (λ at. slice_index bytes at ≢ slice_index header at)
    → IfSome found (λ at. IsTooShort bytes at ⊎ HasOtherHeader bytes at)
other_at bytes (Some at) long within same differs = inr (record { long = long; within = within; same = same; differs = differs })
other_at bytes None long within same differs = tt

module _ (held bytes : List ℕ) (n : ℕ) (shows : held ≡ take n (drop 0 bytes)) where
  whole : bytes ≡ held ++ drop n bytes
  whole = sym (take-append-drop n bytes) ∙ ap (λ z. z ++ drop n bytes) (sym shows)

  -- a file that is held to its end, or for 16 bytes, is no journal where those show it
  pub no_header : (at place size : ℕ) → place ≡ 0 → size ≡ length bytes → (16 ≤ length held) ⊎ (place + length held ≡ size) → IsTooShort held at ⊎ HasOtherHeader held at → IsNoJournal bytes at
  no_header at place size none long (inl enough) (inl brief) = absurd (omega (arith, enough, brief.short))
  no_header at place size none long (inr all) (inl brief) = inl (record { short = omega (arith, none, long, all, brief.short); ends = omega (arith, none, long, all, brief.ends) })
  no_header at place size none long enough (inr other) = inr (inl (record {
    long = omega (arith, other.long, ap length whole, length-append held (drop n bytes));
    within = other.within;
    same = ap (take at) whole ∙ take-append-le at held (drop n bytes) (omega (arith, other.long, other.within)) ∙ other.same;
    differs = λ alike. other.differs (sym (get_or_append_left held (drop n bytes) 0 at (omega (arith, other.long, other.within))) ∙ ap (λ z. get_or z at 0) (sym whole) ∙ alike);
  }))

  pub has_header : take 16 held ≡ header → (left : List ℕ) × (bytes ≡ header ++ left)
  has_header same = (
    drop 16 held ++ drop n bytes,
    whole ∙ ap (λ z. z ++ drop n bytes) (sym (take-append-drop 16 held) ∙ ap (λ z. z ++ drop 16 held) same) ∙ append_assoc header (drop 16 held) (drop n bytes),
  )
