-- UTF-8 that stands for itself in a string.
use Rattle.std.proofs.Common.{◌≡◌, inl, inr, ℕ, ◌+◌, ◌-◌, ◌<◌, ◌≤◌, Bool, true, false, ◌&&◌, eqb, ltb, le-ltb, min, List, ◌++◌, length, take, drop, get_or, refl, sym, ap, subst, ◌∙◌, arith, length-append, length-drop}
use Rattle.std.proofs.lemmas.Bool.{cases_lt, ne_eqb}
use Rattle.std.proofs.lemmas.Str.{IsUtf8-take, IsUtf8-drop}
use Rattle.std.proofs.lemmas.List.{drop-drop, length-take-le, take-append-drop, take-take, get_or-take, get_or-drop, drop-take}
use Rattle.std.specs.Str.{IsUtf8, IsCharBoundary}
use Rattle.byte_lanes.specs.Bytes.{is_special}
use Rattle.byte_lanes.specs.Places.{NonePasses}
use Rattle.json_lexemes.specs.declared.lexeme.Lexeme.{Lexeme}
use Rattle.json_lexemes.specs.declared.lexeme.Lexeme.TheVariants.{Plain as plain}
use Rattle.json_lexemes.specs.Scan.{Passes, IsTextUpTo}
use Rattle.json_lexemes.proofs.Spelled.{segment_plain}
use Rattle.json_lexemes.proofs.Courses.{Course, course_passes}
use Rattle.json_lexemes.proofs.SpelledTexts.{spelling_leads}

pub text_passes : (bytes : List ℕ) (i n : ℕ) → i + n ≤ length bytes → NonePasses is_special bytes i (i + n) → IsUtf8 (take n (drop i bytes)) → Passes bytes i (plain false) (i + n) (plain false)
text_passes bytes i n h usual utf8 =
    let text = take n (drop i bytes) in
    let t = drop (i + n) bytes in
    let course : Course (plain false) (text ++ t) t (plain false) = subst (λ l. Course (plain false) (l ++ t) t (plain false)) (segment_plain bytes i n h usual) (spelling_leads text t utf8) in
    let long : length text ≡ n = length-take-le n (drop i bytes) (omega (arith, h, length-drop i bytes)) in
    let whole : text ++ t ≡ drop i bytes = ap (λ l. text ++ l) (sym (drop-drop n i bytes)) ∙ take-append-drop n (drop i bytes) in
    course_passes bytes (plain false) (text ++ t) t (plain false) i (i + n) course whole (omega (arith, long, length-append text t))

-- what stands between two places of UTF-8 at which characters begin
utf8_between : (bytes : List ℕ) (text at end : ℕ) → IsTextUpTo bytes text → at ≤ end → end ≤ text → (128 ≤ get_or bytes at 0 → 192 ≤ get_or bytes at 0) → (end < text → get_or bytes end 0 < 128) → IsUtf8 (take (end - at) (drop at bytes))
utf8_between bytes text at end known low high begins ascii =
    let front = take text bytes in
    let long : length front ≡ text = length-take-le text bytes known.within in
    let there : (k : ℕ) → k < text → get_or front k 0 ≡ get_or bytes k 0 = λ k h. get_or-take text bytes k 0 h in
    let first : IsCharBoundary front at = (omega (arith, long, low, high), λ lt big. (let same = there at (omega (arith, lt, long)) in subst (λ x. 192 ≤ x) (sym same) (begins (subst (λ x. 128 ≤ x) same big)))) in
    let rest = drop at front in
    let left : length rest ≡ text - at = length-drop at front ∙ ap (λ n. n - at) long in
    let place : at + (end - at) ≡ end = omega (arith, low) in
    let last : IsCharBoundary rest (end - at) = (
      omega (arith, left, high),
      λ lt big. (
          let within : end < text = omega (arith, lt, left, low) in
          let same : get_or rest (end - at) 0 ≡ get_or bytes end 0 = get_or-drop at front (end - at) 0 ∙ ap (λ n. get_or front n 0) place ∙ there end within in
          absurd (omega (arith, ascii within, subst (λ x. 128 ≤ x) same big))),
    ) in
    let text_there = IsUtf8-take rest (end - at) (IsUtf8-drop front at known.utf8 first) last in
    let sum : at + (text - at) ≡ text = omega (arith, low, high) in
    subst IsUtf8 (ap (take (end - at)) (ap (λ m. drop at (take m bytes)) (sym sum) ∙ drop-take at (text - at) bytes) ∙ take-take (end - at) (text - at) (drop at bytes) (omega (arith, high))) text_there

special_is_ascii : (byte : ℕ) → is_special byte ≡ true → byte < 128
special_is_ascii byte h = elim (cases_lt byte 128) [
  | inl low ↦ low
  | inr high ↦ absurd (
      let control : ltb byte 32 ≡ false = le-ltb byte 32 (omega (arith, high)) in
      let quote : eqb byte 34 ≡ false = ne_eqb byte 34 (λ z. omega (arith, high, z)) in
      let backslash : eqb byte 92 ≡ false = ne_eqb byte 92 (λ z. omega (arith, high, z)) in
      let none : is_special byte ≡ false = rw (control, quote, backslash) refl in
      let bad : ⊥ = cc in bad)
]

-- a run of UTF-8 up to the next special byte
pub text_run : (bytes : List ℕ) (text at stop : ℕ) → IsTextUpTo bytes text → at < text → (128 ≤ get_or bytes at 0 → 192 ≤ get_or bytes at 0) → at ≤ stop → NonePasses is_special bytes at stop → (stop < length bytes → is_special (get_or bytes stop 0) ≡ true) → (end : ℕ) → end ≡ min stop text → Passes bytes at (plain false) end (plain false)
text_run bytes text at stop known inside begins low usual there end is =
    let high : end ≤ text = omega (arith, is) in
    let near : end ≤ stop = omega (arith, is) in
    let far : at ≤ end = omega (arith, is, inside, low) in
    let n = end - at in
    let e : at + n ≡ end = omega (arith, far) in
    let ascii : end < text → get_or bytes end 0 < 128 = λ h. (let same : stop ≡ end = omega (arith, is, h) in special_is_ascii (get_or bytes end 0) (subst (λ k. is_special (get_or bytes k 0) ≡ true) same (there (omega (arith, same, h, known.within))))) in
    subst (λ j. Passes bytes at (plain false) j (plain false)) e (text_passes bytes at n (omega (arith, e, high, known.within)) (λ k l u. usual k l (omega (arith, u, e, near))) (utf8_between bytes text at end known far high begins ascii))

-- a run, for any name of its states
pub run_as : (bytes : List ℕ) (i j : ℕ) (word : Lexeme) (high still : Bool) → word ≡ plain high → Passes bytes i (plain high) j (plain (high && eqb j i)) → still ≡ (high && eqb j i) → Passes bytes i word j (plain still)
run_as bytes i j word high still is run e = subst (λ w. Passes bytes i w j (plain still)) (sym is) (subst (λ b. Passes bytes i (plain high) j (plain b)) (sym e) run)
