-- Texts of two numbers with a comma between them.
use Rattle.std.proofs.Common.{◌≡◌, ◌∙◌, ◌==◌, ℕ, false, refl, sym, ap₂, subst, arith, List, [], ◌∷◌, ◌++◌, Option, Some, None, IfNone}
use Rattle.std.proofs.lemmas.List.Elements.{All-head, All-tail, All-nil, All-cons}
use Rattle.std.proofs.lemmas.Bool.Decides.{nat_tests}
use Rattle.std.specs.Str.Parse.{AllDigits}
use Rattle.std.proofs.lemmas.Str.Parse.{digit_from_value}
use Rattle.sidecar_words.specs.Meaning.{AreNumbers, IsDrill}
use Rattle.sidecar_words.specs.Parts.{Lacks}
use Rattle.sidecar_words.specs.declared.given.Mode.{Mode}
use Rattle.sidecar_words.specs.declared.given.Mode.TheVariants.{Stdio, Check, Drill, Serve}

abbrev NoComma : ℕ → Type 0
NoComma byte = (byte == 44) ≡ false

-- there is one such cut
pub cut_once : (a b x y : List ℕ) → Lacks a → Lacks b → a ++ 44 ∷ x ≡ b ++ 44 ∷ y → (a ≡ b) × (x ≡ y)
cut_once [] [] x y la lb is = (refl, cc)
cut_once [] (v ∷ b) x y la lb is = let first : v ≡ 44 = cc in absurd (grind (arith, nat_tests, All-head NoComma v b lb))
cut_once (v ∷ a) [] x y la lb is = let first : v ≡ 44 = cc in absurd (grind (arith, nat_tests, All-head NoComma v a la))
cut_once (v ∷ a) (w ∷ b) x y la lb is =
    let first : v ≡ w = cc in
    let rest = cut_once a b x y (All-tail NoComma v a la) (All-tail NoComma w b lb) (cc) in
    (cc, rest.1)

pub no_comma : (text a b : List ℕ) → Lacks text → text ≡ a ++ 44 ∷ b → ⊥
no_comma text [] b lacks is = absurd (grind (arith, nat_tests, All-head NoComma 44 b (subst Lacks is lacks)))
no_comma text (v ∷ a) b lacks is = no_comma (a ++ 44 ∷ b) a b (All-tail NoComma v (a ++ 44 ∷ b) (subst Lacks is lacks)) refl

-- no digit is a comma
pub digits_lack : (text : List ℕ) → AllDigits 10 text → Lacks text
digits_lack [] is = All-nil NoComma
digits_lack (b ∷ text) is =
    let range = digit_from_value b is.0 in
    All-cons NoComma b text (grind (arith, nat_tests)) (digits_lack text is.1)

first_lacks : (first second : List ℕ) (mode : Mode) → AreNumbers first second mode → Lacks first
first_lacks first second (Drill start requests) numbers = digits_lack first numbers.0.digits
first_lacks first second Stdio numbers = absurd numbers
first_lacks first second Check numbers = absurd numbers
first_lacks first second Serve numbers = absurd numbers

same_numbers : (first second : List ℕ) (one other : Mode) → AreNumbers first second one → AreNumbers first second other → one ≡ other
same_numbers first second (Drill start requests) (Drill begun many) a b = ap₂ Drill (a.0.value ∙ sym b.0.value) (a.1.value ∙ sym b.1.value)
same_numbers first second (Drill start requests) Stdio a b = absurd b
same_numbers first second (Drill start requests) Check a b = absurd b
same_numbers first second (Drill start requests) Serve a b = absurd b
same_numbers first second Stdio other a b = absurd a
same_numbers first second Check other a b = absurd a
same_numbers first second Serve other a b = absurd a

-- what is cut at the first comma are the parts of a drill
pub parts_of : (text front back : List ℕ) (mode : Mode) → text ≡ front ++ 44 ∷ back → Lacks front → IsDrill text mode → AreNumbers front back mode
parts_of text front back mode whole lacks drill =
    let same = cut_once drill.first front drill.second back (first_lacks drill.first drill.second mode drill.numbers) lacks (sym drill.form ∙ whole) in
    subst (λ (b : List ℕ). AreNumbers front b mode) same.1 (subst (λ (a : List ℕ). AreNumbers a drill.second mode) same.0 drill.numbers)

-- a text is one drill
pub one_drill : (text : List ℕ) (one other : Mode) → IsDrill text one → IsDrill text other → one ≡ other
one_drill text one other a b = same_numbers a.first a.second one other a.numbers (parts_of text a.first a.second other a.form (first_lacks a.first a.second one a.numbers) b)

pub if_none : {A : Type 0} (result : Option A) (P Q : Type 0) → (P → Q) → IfNone result P → IfNone result Q
if_none None P Q then is = then is
if_none (Some x) P Q then is = is
