-- Reading changes one after the other, as a loop does.
use Rattle.std.proofs.Common.{◌≡◌, ℕ, suc, ◌-◌, ◌+◌, ◌≤◌, ◌<◌, List, [], ◌∷◌, ◌++◌, Option, Some, None, refl, sym, ap, ◌∙◌, append_assoc, arith}
use Rattle.std.proofs.lemmas.List.{append-nil}
use Rattle.keeper_core.specs.declared.changes.Change.{Change}
use Rattle.keeper_journal.specs.declared.decoding.BodyErr.{BodyErr}
use Rattle.keeper_journal.specs.declared.decoding.BodyErr.TheVariants.{NotABody, NoMemory}
use Rattle.keeper_journal.specs.Reading.{◌>>=◌, Misses, change_at, changes_at}

-- what was read before, and what is still read
abbrev pub with_front : List Change → Option (List Change × List ℕ) → Option (List Change × List ℕ)
with_front front read = read >>= λ x. Some (front ++ x.0, x.1)

regroup : (front : List Change) (change : Change) (read : Option (List Change × List ℕ)) → with_front front (read >>= λ x. Some (change ∷ x.0, x.1)) ≡ with_front (front ++ change ∷ []) read
regroup front change (Some x) = ap (λ (list : List Change). Some (list, x.1)) (simp append_assoc)
regroup front change None = refl

pub goes_on : (front : List Change) (count i : ℕ) (bytes : List ℕ) (change : Change) (after : List ℕ) (total : Option (List Change × List ℕ)) → i < count → change_at bytes ≡ Some (change, after)
    → with_front front (changes_at (count - i) bytes) ≡ total → with_front (front ++ change ∷ []) (changes_at (count - (i + 1)) after) ≡ total
unfolding changes_at
goes_on front count i bytes change after total lt h so_far =
    let k : count - i ≡ suc (count - (i + 1)) = omega arith in
    let one : with_front front (changes_at (count - i) bytes) ≡ with_front (front ++ change ∷ []) (changes_at (count - (i + 1)) after) = rw (k, h) (regroup front change (changes_at (count - (i + 1)) after)) in
    sym one ∙ so_far

pub ends : (e : BodyErr) (front : List Change) (count i : ℕ) (bytes : List ℕ) (total : Option (List Change × List ℕ)) → i < count → Misses e (change_at bytes)
    → with_front front (changes_at (count - i) bytes) ≡ total → Misses e total
unfolding changes_at
ends NoMemory front count i bytes total lt h so_far = tt
ends NotABody front count i bytes total lt h so_far =
    let k : count - i ≡ suc (count - (i + 1)) = omega arith in
    let one : with_front front (changes_at (count - i) bytes) ≡ None = rw (k, h) refl in
    sym so_far ∙ one

pub is_done : (front : List Change) (count i : ℕ) (bytes : List ℕ) (total : Option (List Change × List ℕ)) → count ≤ i → with_front front (changes_at (count - i) bytes) ≡ total → total ≡ Some (front, bytes)
unfolding changes_at
is_done front count i bytes total le so_far =
    let k : count - i ≡ 0 = omega arith in
    let one : with_front front (changes_at (count - i) bytes) ≡ Some (front, bytes) = rw k (ap (λ (list : List Change). Some (list, bytes)) (append-nil front)) in
    sym so_far ∙ one
