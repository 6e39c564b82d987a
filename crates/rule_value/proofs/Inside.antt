-- A text within another.
use Rattle.std.proofs.Common.{◌≡◌, ◌⊎◌, inl, inr, ℕ, Bool, true, false, ◌||◌, List, [], ◌∷◌, ◌++◌, drop, length, nat_eq, refl, sym, ap, ◌∙◌}
use Rattle.std.specs.Prelude.{Option, Some, None}
use Rattle.std.specs.List.{starts_with}
use Rattle.std.specs.Bool.{MatchBool}
use Rattle.std.specs.Str.Iter.{HasSubslice}
use Rattle.std.specs.Str.Pattern.{FindsText, HasMatch}
use Rattle.std.proofs.lemmas.Bool.Decides.{Decides-eqb}
use Rattle.std.proofs.lemmas.Slice.Eq.{starts_is}
use Rattle.std.proofs.lemmas.Str.Pattern.{contains_text}
use Rattle.rule_value.specs.declared.part.Call.{Call}
use Rattle.rule_value.specs.Values.{Value, text, number, flag, null, other, error, is_inside, called, holds, text_in}

starts_so : (s p : List ℕ) → (starts_with nat_eq s p ≡ true → s ≡ p ++ drop (length p) s) × ((rest : List ℕ) → s ≡ p ++ rest → starts_with nat_eq s p ≡ true)
starts_so s p = starts_is Decides-eqb s p (starts_with nat_eq s p) refl

or_right : (a b : Bool) → b ≡ true → (a || b) ≡ true
or_right true b h = refl
or_right false b h = h

or_left : (a b : Bool) → a ≡ true → (a || b) ≡ true
or_left true b h = refl
or_left false b h = let bad : ⊥ = cc in absurd bad

or_either : (a b : Bool) → (a || b) ≡ true → (a ≡ true) ⊎ (b ≡ true)
or_either true b h = inl refl
or_either false b h = inr h

-- where it begins
starts_inside : (s n : List ℕ) → starts_with nat_eq s n ≡ true → is_inside s n ≡ true
starts_inside [] n h = h
starts_inside (x ∷ s) n h = or_left (starts_with nat_eq (x ∷ s) n) (is_inside s n) h

stands_inside : (a b n s : List ℕ) → s ≡ a ++ (n ++ b) → is_inside s n ≡ true
stands_inside [] b n s e = starts_inside s n ((starts_so s n).1 b e)
stands_inside (x ∷ a) b n [] e = let bad : ⊥ = cc in absurd bad
stands_inside (x ∷ a) b n (y ∷ s) e = or_right (starts_with nat_eq (y ∷ s) n) (is_inside s n) (stands_inside a b n s (let rest : s ≡ a ++ (n ++ b) = cc in rest))

inside_stands : (s n : List ℕ) → is_inside s n ≡ true → HasSubslice s n
inside_stands [] n h = ([], drop (length n) [], (starts_so [] n).0 h)
inside_stands (x ∷ s) n h = elim (or_either (starts_with nat_eq (x ∷ s) n) (is_inside s n) h) [
  | inl here ↦ ([], drop (length n) (x ∷ s), (starts_so (x ∷ s) n).0 here)
  | inr later ↦ (let rest = inside_stands s n later in (x ∷ rest.0, rest.1, ap (λ (l : List ℕ). x ∷ l) rest.2))
]

same_truth : (r b : Bool) → (r ≡ true → b ≡ true) → (b ≡ true → r ≡ true) → r ≡ b
same_truth true b f g = sym (f refl)
same_truth false true f g = g refl
same_truth false false f g = refl

-- std's search finds it exactly where it stands there
pub inside_text : (r : Bool) (n s : List ℕ) → MatchBool r (HasMatch (FindsText n) s) (FindsText n s None) → r ≡ is_inside s n
inside_text r n s found =
    let tells = contains_text r n s found in
    same_truth r (is_inside s n) (λ yes. let at = tells.0 yes in stands_inside at.0 at.1 n s at.2) (λ inside. tells.1 (inside_stands s n inside))

-- ---- calls

abbrev pub of_texts : Call → Option (List ℕ) → Option (List ℕ) → Option Bool
of_texts call (Some all) (Some part) = Some (holds call all part)
of_texts call one second = None

called_texts : (call : Call) (a b : Value) → of_texts call (text_in a) (text_in b) ≡ called call a b
called_texts call (text s) (text t) = refl
called_texts call (text s) (number w) = refl
called_texts call (text s) (flag on) = refl
called_texts call (text s) null = refl
called_texts call (text s) other = refl
called_texts call (text s) error = refl
called_texts call (number w) b = refl
called_texts call (flag on) b = refl
called_texts call null b = refl
called_texts call other b = refl
called_texts call error b = refl

pub called_of : (call : Call) (a b : Value) (one second : Option (List ℕ)) → one ≡ text_in a → second ≡ text_in b → of_texts call one second ≡ called call a b
called_of call a b one second x y = ap (λ o. of_texts call o second) x ∙ ap (of_texts call (text_in a)) y ∙ called_texts call a b

-- the first is none
pub called_none : (call : Call) (a b : Value) → None ≡ text_in a → None ≡ called call a b
called_none call a b x = none_first (text_in b) ∙ ap (λ o. of_texts call o (text_in b)) x ∙ called_texts call a b
  where
    none_first : (second : Option (List ℕ)) → None ≡ of_texts call None second
    none_first None = refl
    none_first (Some t) = refl
