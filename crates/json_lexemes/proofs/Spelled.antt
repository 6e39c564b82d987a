-- The spelling of a text, run by run.
use Rattle.std.proofs.Common.{◌≡◌, ℕ, zero, suc, ◌+◌, ◌-◌, ◌<◌, ◌≤◌, Bool, true, false, ◌||◌, eqb, ltb, List, [], ◌∷◌, ◌++◌, length, take, take-suc, take-add, drop, get_or, refl, sym, ap, ◌∙◌, arith, append_assoc, append-nil, length-append, length-drop, get_or-drop}
use Rattle.std.specs.Prelude.{Result, Ok, Err, OnOk}
use Rattle.std.proofs.lemmas.Grind.{flat_map-append}
use Rattle.std.proofs.lemmas.Simd.{get_or-chunk}
use Rattle.std.proofs.lemmas.List.{length-take-le, take-append-le, take-append-drop, take_all}
use Rattle.byte_lanes.specs.Bytes.{is_special}
use Rattle.byte_lanes.specs.Places.{NonePasses, IsLeastPlace}
use Rattle.byte_lanes.specs.Spelling.{spelled, spelled_byte}

pub or_no : (a b : Bool) → (a || b) ≡ false → (a ≡ false) × (b ≡ false)
or_no true b h = absurd (let bad : ⊥ = cc in bad)
or_no false b h = (refl, h)

pub plain_byte : (x : ℕ) → is_special x ≡ false → spelled_byte x ≡ x ∷ []
unfolding spelled_byte
plain_byte x h =
    let outer = or_no (ltb x 32 || eqb x 34) (eqb x 92) h in
    let inner = or_no (ltb x 32) (eqb x 34) outer.0 in
    let control : ltb x 32 ≡ false = inner.0 in
    let quote : eqb x 34 ≡ false = inner.1 in
    let backslash : eqb x 92 ≡ false = outer.1 in
    rw (quote, backslash, control) refl

pub spelled_plain : (xs : List ℕ) → ((k : ℕ) → k < length xs → is_special (get_or xs k 0) ≡ false) → spelled xs ≡ xs
spelled_plain [] h = refl
spelled_plain (x ∷ xs) h = ap (λ s. s ++ spelled xs) (plain_byte x (h zero (omega arith))) ∙ ap (λ l. x ∷ l) (spelled_plain xs (λ k lt. h (suc k) (omega (arith, lt))))

pub spelled-append : (xs ys : List ℕ) → spelled (xs ++ ys) ≡ spelled xs ++ spelled ys
spelled-append xs ys = flat_map-append spelled_byte xs ys

pub segment_plain : (bytes : List ℕ) (at n : ℕ) → at + n ≤ length bytes → NonePasses is_special bytes at (at + n) → spelled (take n (drop at bytes)) ≡ take n (drop at bytes)
segment_plain bytes at n h none = spelled_plain (take n (drop at bytes)) (λ k lt. (let small : k < n = omega (arith, lt, length-take-le n (drop at bytes) (omega (arith, h, length-drop at bytes))) in
    ap is_special (get_or-chunk at n bytes k 0 small) ∙ none (at + k) (omega arith) (omega (arith, small))))

-- what stands for itself and then a byte that doesn't
pub spelled_on : (bytes out old piece : List ℕ) (at place : ℕ) → IsLeastPlace is_special bytes at place → out ≡ old ++ spelled (take at bytes) → piece ≡ (out ++ take (place - at) (drop at bytes)) ++ spelled_byte (get_or bytes place 0) → piece ≡ old ++ spelled (take (place + 1) bytes)
spelled_on bytes out old piece at place h written pushed =
    let n = place - at in
    let there : at + n ≡ place = omega (arith, h.low) in
    let segment = take n (drop at bytes) in
    let b = get_or bytes place 0 in
    let plain : spelled segment ≡ segment = segment_plain bytes at n (omega (arith, there, h.within)) (λ k low high. h.before k low (omega (arith, high, there))) in
    let whole : take (place + 1) bytes ≡ (take at bytes ++ segment) ++ b ∷ [] =
    ap (λ k. take k bytes) (let e : place + 1 ≡ suc place = omega arith in e) ∙ take-suc bytes place 0 h.within ∙ ap (λ l. l ++ b ∷ []) (ap (λ k. take k bytes) (sym there) ∙ take-add at n bytes) in
    let all : spelled (take (place + 1) bytes) ≡ (spelled (take at bytes) ++ segment) ++ spelled_byte b =
    ap spelled whole ∙ spelled-append (take at bytes ++ segment) (b ∷ []) ∙ ap (λ l. l ++ (spelled_byte b ++ [])) (spelled-append (take at bytes) segment ∙ ap (λ l. spelled (take at bytes) ++ l) plain)
    ∙ ap (λ l. (spelled (take at bytes) ++ segment) ++ l) (append-nil (spelled_byte b)) in
    pushed ∙ ap (λ l. (l ++ segment) ++ spelled_byte b) written ∙ ap (λ l. l ++ spelled_byte b) (append_assoc old (spelled (take at bytes)) segment) ∙ append_assoc old (spelled (take at bytes) ++ segment) (spelled_byte b) ∙ ap (λ l. old ++ l) (sym all)

-- what stands for itself to the end
pub spelled_rest : (bytes out old : List ℕ) (at : ℕ) → at ≤ length bytes → NonePasses is_special bytes at (length bytes) → out ≡ old ++ spelled (take at bytes) → out ++ drop at bytes ≡ old ++ spelled bytes
spelled_rest bytes out old at h none written =
    let plain : spelled (drop at bytes) ≡ drop at bytes = spelled_plain (drop at bytes) (λ k lt. ap is_special (get_or-drop at bytes k 0) ∙ none (at + k) (omega arith) (omega (arith, lt, length-drop at bytes))) in
    ap (λ l. l ++ drop at bytes) written ∙ append_assoc old (spelled (take at bytes)) (drop at bytes) ∙ ap (λ l. old ++ l) (ap (λ l. spelled (take at bytes) ++ l) (sym plain) ∙ sym (spelled-append (take at bytes) (drop at bytes)) ∙ ap spelled (take-append-drop at bytes))

pub kept_front : (old more out new : List ℕ) → out ≡ old ++ more → take (length out) new ≡ out → take (length old) new ≡ old
kept_front old more out new e h =
    let shorter : length old ≤ length out = omega (arith, ap length e, length-append old more) in
    sym (take_less (length old) (length out) new shorter) ∙ ap (take (length old)) (h ∙ e) ∙ take-append-le (length old) old more (omega arith) ∙ take_whole old
  where
    take_whole : (xs : List ℕ) → take (length xs) xs ≡ xs
    take_whole [] = refl
    take_whole (x ∷ xs) = ap (λ l. x ∷ l) (take_whole xs)

    take_less : (n m : ℕ) (xs : List ℕ) → n ≤ m → take n (take m xs) ≡ take n xs
    take_less zero m xs le = refl
    take_less (suc n) zero xs le = absurd (omega (arith, le))
    take_less (suc n) (suc m) [] le = refl
    take_less (suc n) (suc m) (x ∷ xs) le = ap (λ l. x ∷ l) (take_less n m xs (omega (arith, le)))

pub on_ok : {T E : Type 0} (r : Result T E) (P Q : Type 0) → OnOk r P → (P → Q) → OnOk r Q
on_ok (Ok x) P Q h f = f h
on_ok (Err e) P Q h f = h

pub rest_whole : (bytes : List ℕ) (at : ℕ) → take (length bytes - at) (drop at bytes) ≡ drop at bytes
rest_whole bytes at = take_all (length bytes - at) (drop at bytes) (omega (arith, length-drop at bytes))
