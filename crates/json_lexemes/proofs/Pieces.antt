-- Texts, piece by piece.
use Rattle.std.proofs.Common.{◌≡◌, ℕ, zero, suc, ◌+◌, ◌-◌, ◌<◌, ◌≤◌, Bool, true, false, eqb, List, [], ◌∷◌, ◌++◌, length, take, drop, get_or, Some, None, refl, sym, ap, ◌∙◌, arith, drop-cons}
use Rattle.std.specs.List.{slice_get}
use Rattle.std.specs.Cmp.Lexicographic.{pointwise}
use Rattle.std.proofs.Common.{eq-eqb}
use Rattle.std.specs.Prelude.{IsTrue, ◌↔◌}
use Rattle.std.proofs.lemmas.Bool.{ne_eqb}
use Rattle.std.proofs.lemmas.List.{drop_all}
use Rattle.std.proofs.lemmas.List.{take-append-le}
use Rattle.json_lexemes.specs.declared.unescape.Pending.{Pending}
use Rattle.json_lexemes.specs.Unescape.{unescaped_from, after_byte, completed}

pub unescaped_cons : (pending : Pending) (byte : ℕ) (rest : List ℕ) → unescaped_from pending (byte ∷ rest) ≡ completed pending byte ++ unescaped_from (after_byte pending byte) rest
unfolding unescaped_from
unescaped_cons pending byte rest = refl

pub unescaped_nil : (pending : Pending) → unescaped_from pending [] ≡ []
unfolding unescaped_from
unescaped_nil pending = refl

-- the text that is left, by one more byte
pub unescaped_step : (bytes : List ℕ) (k : ℕ) (pending : Pending) → k < length bytes → unescaped_from pending (drop k bytes) ≡ completed pending (get_or bytes k 0) ++ unescaped_from (after_byte pending (get_or bytes k 0)) (drop (k + 1) bytes)
unescaped_step bytes k pending h = ap (unescaped_from pending) (drop-cons bytes k 0 h) ∙ unescaped_cons pending (get_or bytes k 0) (drop (suc k) bytes) ∙ ap (λ n. completed pending (get_or bytes k 0) ++ unescaped_from (after_byte pending (get_or bytes k 0)) (drop n bytes)) (let e : suc k ≡ k + 1 = omega arith in e)

pub append_same : (p a b : List ℕ) → p ++ a ≡ p ++ b → a ≡ b
append_same [] a b e = e
append_same (x ∷ p) a b e = let rest : p ++ a ≡ p ++ b = cc in append_same p a b rest

-- the two sides of a comparison go on together
pub record Same (whole text left rest : List ℕ) : Type 0 where
  pub forth : whole ≡ text → left ≡ rest
  pub back : left ≡ rest → whole ≡ text

pub same_step : (whole text left rest piece next_left next_rest : List ℕ) → Same whole text left rest → left ≡ piece ++ next_left → rest ≡ piece ++ next_rest → Same whole text next_left next_rest
same_step whole text left rest piece next_left next_rest h l r = record {
  forth = λ e. append_same piece next_left next_rest (sym l ∙ h.forth e ∙ r);
  back = λ e. h.back (l ∙ ap (λ x. piece ++ x) e ∙ sym r);
}

pub taken_front : (rest p others : List ℕ) (n : ℕ) → n ≡ length p → rest ≡ p ++ others → take n rest ≡ p
taken_front rest p others n e is = ap (λ k. take k rest) e ∙ ap (take (length p)) is ∙ take-append-le (length p) p others (omega arith) ∙ take_whole p
  where
    take_whole : (xs : List ℕ) → take (length xs) xs ≡ xs
    take_whole [] = refl
    take_whole (x ∷ xs) = ap (λ l. x ∷ l) (take_whole xs)

pub get_front : (p q : List ℕ) (i : ℕ) → i < length p → slice_get (p ++ q) i ≡ slice_get p i
get_front [] q i h = absurd (omega (arith, h))
get_front (x ∷ p) q zero h = refl
get_front (x ∷ p) q (suc i) h = get_front p q i (omega (arith, h))

pub get_behind : (p q : List ℕ) (i : ℕ) → length p ≤ i → slice_get (p ++ q) i ≡ slice_get q (i - length p)
get_behind [] q i h = let e : i ≡ i - 0 = omega arith in ap (slice_get q) e
get_behind (x ∷ p) q zero h = absurd (omega (arith, h))
get_behind (x ∷ p) q (suc i) h = get_behind p q i (omega (arith, h)) ∙ ap (slice_get q) (let e : i - length p ≡ suc i - length (x ∷ p) = omega arith in e)

-- the same step, by what the code has of it
pub piece_step : (bytes : List ℕ) (k : ℕ) (pending next : Pending) (piece : List ℕ) → k < length bytes → piece ≡ completed pending (get_or bytes k 0) → next ≡ after_byte pending (get_or bytes k 0) → unescaped_from pending (drop k bytes) ≡ piece ++ unescaped_from next (drop (k + 1) bytes)
piece_step bytes k pending next piece h p n = unescaped_step bytes k pending h ∙ ap (λ x. x ++ unescaped_from (after_byte pending (get_or bytes k 0)) (drop (k + 1) bytes)) (sym p) ∙ ap (λ x. piece ++ unescaped_from x (drop (k + 1) bytes)) (sym n)

pub nothing_left : (bytes : List ℕ) (k : ℕ) (pending : Pending) → length bytes ≤ k → unescaped_from pending (drop k bytes) ≡ []
nothing_left bytes k pending h = ap (unescaped_from pending) (drop_all k bytes h) ∙ unescaped_nil pending

not_true : false ≡ true → ⊥
not_true e = let bad : ⊥ = cc in bad

pub end_same : (whole text left rest : List ℕ) (b : Bool) → Same whole text left rest → left ≡ [] → b ≡ eqb (length rest) 0 → IsTrue b ↔ (whole ≡ text)
end_same whole text left [] b h none e = (λ t. h.back none, λ w. e)
end_same whole text left (x ∷ rest) b h none e = (λ t. absurd (not_true (sym (e ∙ more) ∙ t)), λ w. absurd (omega (arith, ap length (sym none ∙ h.forth w))))
  where
    more : eqb (length (x ∷ rest)) 0 ≡ false
    more = ne_eqb (length (x ∷ rest)) 0 (λ z. omega (arith, z))

pub get_taken : (xs : List ℕ) (n i : ℕ) → i < n → i < length xs → slice_get (take n xs) i ≡ Some (get_or xs i 0)
get_taken [] n i h l = absurd (omega (arith, l))
get_taken (x ∷ xs) zero i h l = absurd (omega (arith, h))
get_taken (x ∷ xs) (suc n) zero h l = refl
get_taken (x ∷ xs) (suc n) (suc i) h l = get_taken xs n i (omega (arith, h)) (omega (arith, l))

pub get_none : (xs : List ℕ) (i : ℕ) → xs ≡ [] → slice_get xs i ≡ None
get_none [] i e = refl
get_none (x ∷ xs) i e = absurd (omega (arith, ap length e))

pointwise_same : (xs : List ℕ) → pointwise eqb xs xs ≡ true
pointwise_same [] = refl
pointwise_same (x ∷ xs) = let head : eqb x x ≡ true = eq-eqb x x refl in rw head (pointwise_same xs)

-- a text that begins with a piece has it in front
pub front_is : (text piece others front : List ℕ) (n : ℕ) (b : Bool) → n ≡ length piece → front ≡ take n text → b ≡ pointwise eqb front piece → b ≡ false → text ≡ piece ++ others → ⊥
front_is text piece others front n b e f same fails is =
    let there : front ≡ piece = f ∙ taken_front text piece others n e is in
    not_true (sym fails ∙ same ∙ ap (λ x. pointwise eqb x piece) there ∙ pointwise_same piece)
