-- Texts with commas between them, one more at the end.
use Rattle.std.proofs.Common.{◌≡◌, ℕ, ◌+◌, ◌<◌, Bool, true, false, ◌==◌, List, [], ◌∷◌, ◌++◌, map, take, length, zero, suc, refl, sym, ap, ◌∙◌, append_assoc, arith, rules}
use Rattle.std.proofs.lemmas.List.{map-append}
use Rattle.json_text.specs.Joined.{joined, comma}

-- behind at least one text
joined_more : (first : List ℕ) (others : List (List ℕ)) (last : List ℕ) → joined (first ∷ others ++ last ∷ []) ≡ joined (first ∷ others) ++ 44 ∷ last
joined_more first [] last = refl
joined_more first (next ∷ others) last = ap (λ (z : List ℕ). first ++ 44 ∷ z) (joined_more next others last) ∙ sym (append_assoc first (44 ∷ joined (next ∷ others)) (44 ∷ last))

abbrev is_none : {A : Type 0} → List A → Bool
is_none [] = true
is_none (x ∷ xs) = false

joined_last : (texts : List (List ℕ)) (last : List ℕ) → joined (texts ++ last ∷ []) ≡ joined texts ++ (comma (is_none texts) ++ last)
joined_last [] last = refl
joined_last (first ∷ others) last = joined_more first others last

not_zero : (i : ℕ) → (suc i == 0) ≡ false
not_zero i = Prim.search rules

first_place : {X : Type 0} (text : X → List ℕ) (items : List X) (i : ℕ) → i < length items → is_none (map text (take i items)) ≡ (i == 0)
first_place text [] i below = absurd (omega arith)
first_place text (x ∷ xs) zero below = refl
first_place text (x ∷ xs) (suc i) below = sym (not_zero i)

-- the texts up to the next one
pub joined_next : {X : Type 0} (text : X → List ℕ) (items : List X) (i : ℕ) (item : X) (is_first : Bool) → take (i + 1) items ≡ take i items ++ item ∷ [] → is_first ≡ (i == 0) → i < length items
    → joined (map text (take (i + 1) items)) ≡ joined (map text (take i items)) ++ (comma is_first ++ text item)
joined_next text items i item is_first more first-is below =
    ap (λ l. joined (map text l)) more ∙ ap joined (map-append text (take i items) (item ∷ [])) ∙ joined_last (map text (take i items)) (text item)
    ∙ ap (λ b. joined (map text (take i items)) ++ (comma b ++ text item)) (first_place text items i below ∙ sym first-is)

-- behind a front
pub appended_next : {X : Type 0} (text : X → List ℕ) (items : List X) (i : ℕ) (item : X) (is_first : Bool) (front before after : List ℕ) → take (i + 1) items ≡ take i items ++ item ∷ [] → is_first ≡ (i == 0) → i < length items
    → before ≡ front ++ joined (map text (take i items)) → after ≡ before ++ (comma is_first ++ text item) → after ≡ front ++ joined (map text (take (i + 1) items))
appended_next text items i item is_first front before after more first-is below was is =
    is ∙ ap (λ l. l ++ (comma is_first ++ text item)) was ∙ append_assoc front (joined (map text (take i items))) (comma is_first ++ text item) ∙ ap (λ l. front ++ l) (sym (joined_next text items i item is_first more first-is below))

-- members, one by one
pub fused : {X Y Z : Type 0} (f : Y → Z) (g : X → Y) (items : List X) → map f (map g items) ≡ map (λ x. f (g x)) items
fused f g [] = refl
fused f g (x ∷ items) = ap (λ ys. f (g x) ∷ ys) (fused f g items)

-- in braces
pub built : (empty kept begun held all : List ℕ) (text same : List ℕ) → empty ≡ [] → kept ≡ empty → begun ≡ kept ++ 123 ∷ [] → held ≡ begun ++ text → all ≡ held ++ 125 ∷ [] → text ≡ same → all ≡ 123 ∷ (same ++ 125 ∷ [])
built empty kept begun held all text same a b c d e f =
    e ∙ ap (λ (z : List ℕ). z ++ 125 ∷ []) (d ∙ ap (λ (z : List ℕ). z ++ text) (c ∙ ap (λ (z : List ℕ). z ++ 123 ∷ []) (b ∙ a)) ∙ ap (λ (z : List ℕ). 123 ∷ z) f)
