-- What the calls of a disk do to its contents, and what a crash may leave of them.
use Rattle.std.specs.Prelude.{◌≡◌, ◌⊎◌, ◌≤◌, ℕ, ◌+◌, max, List, ◌++◌, length, take, drop, Option, Some}

-- contents with these bytes from this place on
abbrev pub overwritten : ℕ → List ℕ → List ℕ → List ℕ
overwritten at piece contents = take at contents ++ piece ++ drop (at + length piece) contents

-- contents in which a write of n bytes from this place on was cut short, or went wrong: the range and what lies past the old end
-- may hold any bytes; other bytes stay
pub record Torn (at n : ℕ) (before after : List ℕ) : Type 0 where
  pub front : take at after ≡ take at before
  pub rest : drop (at + n) after ≡ drop (at + n) before
  pub no_shorter : length before ≤ length after
  pub no_longer : length after ≤ max (length before) (at + n)

-- what a read gives, where it is told, was changed so
abbrev pub Becomes : Option (List ℕ) → Option (List ℕ) → (List ℕ → List ℕ → Type 0) → Type 0
Becomes before after change = (old : List ℕ) → before ≡ Some old → (new : List ℕ) × (after ≡ Some new) × change old new

-- each outcome of a crash comes of an outcome before by this change
abbrev pub ComesOf : (List ℕ → List ℕ → Type 0) → (List ℕ → Type 0) → (List ℕ → Type 0) → Type 0
ComesOf change before after = (c : List ℕ) → after c → (d : List ℕ) × before d × change d c

-- there is no new outcome of a crash
abbrev pub NoNew : (List ℕ → Type 0) → (List ℕ → Type 0) → Type 0
NoNew before after = (c : List ℕ) → after c → before c

-- a crash leaves what a read gives
abbrev pub LeavesOnly : Option (List ℕ) → (List ℕ → Type 0) → Type 0
LeavesOnly contents leaves = (c old : List ℕ) → leaves c → contents ≡ Some old → c ≡ old

-- time goes on from one moment to another: what a crash since t might have left is what it might have left before, or what it
-- may leave now
pub record GoesOn (before now : ℕ) (left_before left : ℕ → List ℕ → Type 0) (leaves : List ℕ → Type 0) : Type 0 where
  pub later : before ≤ now
  pub nothing_else : (t : ℕ) (c : List ℕ) → t ≤ before → left t c → left_before t c ⊎ leaves c
  pub keeps : (t : ℕ) (c : List ℕ) → t ≤ before → left_before t c → left t c

-- the range lies within the length
abbrev pub IsWithin : ℕ → ℕ → ℕ → Type 0
IsWithin at n len = at + n ≤ len
