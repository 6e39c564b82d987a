-- Counts of faults of several disks that come back.
use Rattle.std.proofs.Common.{◌≤◌, inl, inr, ℕ, zero, suc, ◌+◌, refl, sym, ◌∙◌, arith}
use Rattle.std.proofs.Math.Nat.{eq-or-lt_of_le}
use Rattle.side_world.specs.Faults.{Rose, RoseWith}

rose_first : (before between after : ℕ) → before ≤ between → Rose before between → between ≤ after → Rose before after
rose_first before between after low (inl less) later = inl (omega (arith, less, later))
rose_first before between after low (inr top) later = elim (eq-or-lt_of_le later) [ inl same ↦ inr (sym same ∙ top) | inr less ↦ inl (omega (arith, low, less)) ]

rose_later : (before between after : ℕ) → before ≤ between → Rose between after → Rose before after
rose_later before between after low (inl less) = inl (omega (arith, low, less))
rose_later before between after low (inr top) = inr top

pub rose_with_none : (count : ℕ) → RoseWith 0 count count
rose_with_none count = record { none = λ _. refl; some = λ some. absurd (some refl) }

pub rose_with_on : (first second before between after : ℕ) → RoseWith first before between → RoseWith second between after → before ≤ between → between ≤ after → RoseWith (first + second) before after
rose_with_on zero second before between after one two low high = record {
  none = λ none. two.none (omega (arith, none)) ∙ one.none refl;
  some = λ some. rose_later before between after low (two.some (λ is. some (omega (arith, is))));
}
rose_with_on (suc first) second before between after one two low high = record {
  none = λ none. absurd (omega (arith, none));
  some = λ some. rose_first before between after low (one.some (λ is. absurd (omega (arith, is)))) high;
}

-- a disk that failed raises the count with it
pub rose_from_zero : (faults before after : ℕ) → Rose 0 faults → RoseWith faults before after → Rose before after
rose_from_zero faults before after (inl some) with_it = with_it.some (λ none. absurd (omega (arith, some, none)))
rose_from_zero faults before after (inr top) with_it = with_it.some (λ none. absurd (omega (arith, top, none)))
