-- Texts, run by run.
use Rattle.std.proofs.Common.{◌≡◌, ℕ, zero, suc, ◌+◌, ◌-◌, ◌<◌, ◌≤◌, max, false, ◌||◌, eqb, ltb, List, [], ◌∷◌, ◌++◌, length, take, drop, get_or, refl, sym, ap, ◌∙◌, arith, append_assoc, append-nil, length-drop}
use Rattle.std.proofs.lemmas.List.{drop-drop, length-take-le, take-append-drop}
use Rattle.std.proofs.lemmas.Simd.{get_or-chunk}
use Rattle.byte_lanes.specs.Bytes.{is_special}
use Rattle.byte_lanes.specs.Places.{NonePasses}
use Rattle.json_lexemes.specs.declared.unescape.Pending.{Pending}
use Rattle.json_lexemes.specs.declared.unescape.Pending.TheVariants.{Between as between}
use Rattle.json_lexemes.specs.Unescape.{unescaped_from, completed, after_byte}
use Rattle.json_lexemes.proofs.Spelled.{or_no}
use Rattle.json_lexemes.proofs.Pieces.{unescaped_cons, piece_step, nothing_left}

one_plain : (high x : ℕ) (ys : List ℕ) → is_special x ≡ false → unescaped_from (between high) (x ∷ ys) ≡ x ∷ unescaped_from (between 0) ys
one_plain high x ys usual =
    let backslash : eqb x 92 ≡ false = (or_no (ltb x 32 || eqb x 34) (eqb x 92) usual).1 in
    rw (unescaped_cons (between high) x ys, backslash) refl

plain_run : (high : ℕ) (xs ys : List ℕ) → 0 < length xs → ((k : ℕ) → k < length xs → is_special (get_or xs k 0) ≡ false) → unescaped_from (between high) (xs ++ ys) ≡ xs ++ unescaped_from (between 0) ys
plain_run high [] ys some usual = absurd (omega (arith, some))
plain_run high (x ∷ []) ys some usual = one_plain high x ys (usual zero (omega arith))
plain_run high (x ∷ y ∷ xs) ys some usual =
    one_plain high x ((y ∷ xs) ++ ys) (usual zero (omega arith)) ∙ ap (λ l. x ∷ l) (plain_run 0 (y ∷ xs) ys (omega arith) (λ k lt. usual (suc k) (omega (arith, lt))))

-- the bytes up to the next special one stand for themselves
pub run_stands : (inside : List ℕ) (at end high : ℕ) → at < end → end ≤ length inside → NonePasses is_special inside at end → unescaped_from (between high) (drop at inside) ≡ take (end - at) (drop at inside) ++ unescaped_from (between 0) (drop end inside)
run_stands inside at end high some within usual =
    let n = end - at in
    let there : at + n ≡ end = omega (arith, some) in
    let long : length (take n (drop at inside)) ≡ n = length-take-le n (drop at inside) (omega (arith, length-drop at inside, within, there)) in
    let rest : drop n (drop at inside) ≡ drop end inside = drop-drop n at inside ∙ ap (λ k. drop k inside) there in
    ap (unescaped_from (between high)) (sym (take-append-drop n (drop at inside)))
    ∙ plain_run high (take n (drop at inside)) (drop n (drop at inside)) (omega (arith, long, there, some))
    (λ k lt. (let small : k < n = omega (arith, lt, long) in ap is_special (get_or-chunk at n inside k 0 small) ∙ usual (at + k) (omega arith) (omega (arith, small, there))))
    ∙ ap (λ l. take n (drop at inside) ++ unescaped_from (between 0) l) rest

-- bytes none of which is special spell themselves
pub all_stand : (inside : List ℕ) → NonePasses is_special inside 0 (length inside) → unescaped_from (between 0) inside ≡ inside
all_stand [] usual = nothing_left [] 0 (between 0) (omega arith)
all_stand (x ∷ xs) usual =
    ap (unescaped_from (between 0)) (sym (append-nil (x ∷ xs))) ∙ plain_run 0 (x ∷ xs) [] (omega arith) (λ k lt. usual k (omega arith) lt)
    ∙ ap (λ l. (x ∷ xs) ++ l) (nothing_left [] 0 (between 0) (omega arith)) ∙ append-nil (x ∷ xs)

-- one more piece
pub one_copied : (inside out old piece : List ℕ) (at end : ℕ) (pending next : Pending) → at < length inside → end ≤ at → piece ≡ completed pending (get_or inside at 0) → next ≡ after_byte pending (get_or inside at 0) → out ≡ old ++ piece → out ++ unescaped_from next (drop (max end (at + 1)) inside) ≡ old ++ unescaped_from pending (drop at inside)
one_copied inside out old piece at end pending next lt le p n e =
    let here : max end (at + 1) ≡ at + 1 = omega (arith, le) in
    ap (λ l. l ++ unescaped_from next (drop (max end (at + 1)) inside)) e ∙ append_assoc old piece _
    ∙ ap (λ k. old ++ (piece ++ unescaped_from next (drop k inside))) here ∙ ap (λ l. old ++ l) (sym (piece_step inside at pending next piece lt p n))

pub all_copied : (inside out old : List ℕ) (at : ℕ) (pending : Pending) → length inside ≤ at → out ++ unescaped_from pending (drop at inside) ≡ old → out ≡ old
all_copied inside out old at pending past copied = sym (append-nil out) ∙ ap (λ l. out ++ l) (sym (nothing_left inside at pending past)) ∙ copied
