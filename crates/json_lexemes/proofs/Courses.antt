-- The states of a word over the bytes that are left, from the front.
use Rattle.std.proofs.Common.{◌≡◌, ℕ, zero, suc, ◌+◌, ◌<◌, ◌≤◌, Bool, false, List, [], ◌∷◌, length, drop, get_or, get_or-drop, Some, refl, sym, ap, subst, ◌∙◌, arith}
use Rattle.std.proofs.lemmas.List.{drop-drop}
use Rattle.json_lexemes.specs.declared.kind.Kind.{Kind}
use Rattle.json_lexemes.specs.declared.lexeme.Lexeme.{Lexeme}
use Rattle.json_lexemes.specs.declared.lexeme.Lexeme.TheVariants.{Minus as minus, LeadingZero as leading_zero, Integer as integer, Point as point, Decimals as decimals, Exponent as exponent, ExponentSign as exponent_sign, ExponentDigits as exponent_digits, Letters as letters, Plain as plain, Tail as tail, Escape as escape, Digits as digits, Closed as closed}
use Rattle.json_lexemes.specs.Lexeme.{next, Spells, more}
use Rattle.json_lexemes.specs.Surrogates.{is_lone, is_lone_in, is_numbered, unit_of}
use Rattle.json_lexemes.specs.Scan.{Passes, stay, go}
use Rattle.json_lexemes.proofs.Runs.{passes_on}

-- the bytes s lead from one state to another, where t is left, past no lone surrogate
pub data Course : Lexeme → List ℕ → List ℕ → Lexeme → Type 0 where
  here : {word : Lexeme} {s : List ℕ} → Course word s s word
  on : {word after last : Lexeme} {byte : ℕ} {s t : List ℕ} → is_lone_in word (byte ∷ s) 0 ≡ false → next word byte ≡ Some after → Course after s t last → Course word (byte ∷ s) t last

pub course_on : (a : Lexeme) (s t : List ℕ) (b : Lexeme) (u : List ℕ) (c : Lexeme) → Course a s t b → Course b t u c → Course a s u c
course_on a s t b u c here q = q
course_on a (byte ∷ s) t b u c (on {after = after} l n p) q = on l n (course_on after s t b u c p q)

pub course_length : (a : Lexeme) (s t : List ℕ) (b : Lexeme) → Course a s t b → length t ≤ length s
course_length a s t b here = omega arith
course_length a (byte ∷ s) t b (on {after = after} l n p) = omega (arith, course_length after s t b p)

-- ---- places in what is left

three_up : (i k n : ℕ) → i + k + n ≡ i + (k + n)
three_up i k n = omega arith

numbered_left : (bytes : List ℕ) (i k : ℕ) → is_numbered (drop i bytes) k ≡ is_numbered bytes (i + k)
unfolding is_numbered
numbered_left bytes i k = rw (get_or-drop i bytes k 0, get_or-drop i bytes (k + 1) 0, get_or-drop i bytes (k + 2) 0, get_or-drop i bytes (k + 3) 0, get_or-drop i bytes (k + 4) 0, get_or-drop i bytes (k + 5) 0, three_up i k 1, three_up i k 2, three_up i k 3, three_up i k 4, three_up i k 5) refl

unit_left : (bytes : List ℕ) (i k : ℕ) → unit_of (drop i bytes) k ≡ unit_of bytes (i + k)
unfolding unit_of
unit_left bytes i k = rw (get_or-drop i bytes (k + 2) 0, get_or-drop i bytes (k + 3) 0, get_or-drop i bytes (k + 4) 0, get_or-drop i bytes (k + 5) 0, three_up i k 2, three_up i k 3, three_up i k 4, three_up i k 5) refl

lone_left : (high : Bool) (bytes : List ℕ) (i : ℕ) → is_lone high (drop i bytes) 0 ≡ is_lone high bytes i
lone_left high bytes i =
    let zero_up : i + 0 ≡ i = omega arith in
    let n0 : is_numbered (drop i bytes) 0 ≡ is_numbered bytes i = numbered_left bytes i 0 ∙ ap (is_numbered bytes) zero_up in
    let u0 : unit_of (drop i bytes) 0 ≡ unit_of bytes i = unit_left bytes i 0 ∙ ap (unit_of bytes) zero_up in
    let n6 : is_numbered (drop i bytes) 6 ≡ is_numbered bytes (i + 6) = numbered_left bytes i 6 in
    let u6 : unit_of (drop i bytes) 6 ≡ unit_of bytes (i + 6) = unit_left bytes i 6 in
    rw (n0, u0, n6, u6) refl

pub lone_in_left : (word : Lexeme) (bytes : List ℕ) (i : ℕ) → is_lone_in word (drop i bytes) 0 ≡ is_lone_in word bytes i
lone_in_left (plain high) bytes i = lone_left high bytes i
lone_in_left minus bytes i = refl
lone_in_left leading_zero bytes i = refl
lone_in_left integer bytes i = refl
lone_in_left point bytes i = refl
lone_in_left decimals bytes i = refl
lone_in_left exponent bytes i = refl
lone_in_left exponent_sign bytes i = refl
lone_in_left exponent_digits bytes i = refl
lone_in_left (letters kind read) bytes i = refl
lone_in_left (tail second count) bytes i = refl
lone_in_left escape bytes i = refl
lone_in_left (digits count unit) bytes i = refl
lone_in_left closed bytes i = refl

pub one_on : (bytes : List ℕ) (i byte : ℕ) (s : List ℕ) → byte ∷ s ≡ drop i bytes → s ≡ drop (suc i) bytes
one_on bytes i byte s e = ap (drop 1) e ∙ drop-drop 1 i bytes ∙ ap (λ n. drop n bytes) (let one : i + 1 ≡ suc i = omega arith in one)

pub first_left : (bytes : List ℕ) (i byte : ℕ) (s : List ℕ) → byte ∷ s ≡ drop i bytes → byte ≡ get_or bytes i 0
first_left bytes i byte s e = ap (λ l. get_or l 0 0) e ∙ get_or-drop i bytes 0 0 ∙ ap (λ k. get_or bytes k 0) (let same : i + 0 ≡ i = omega arith in same)

pub left_inside : (bytes : List ℕ) (i byte : ℕ) (s : List ℕ) → byte ∷ s ≡ drop i bytes → i < length bytes
left_inside [] zero byte s e = absurd (omega (arith, ap length e))
left_inside [] (suc i) byte s e = absurd (omega (arith, ap length e))
left_inside (x ∷ bytes) zero byte s e = omega arith
left_inside (x ∷ bytes) (suc i) byte s e = omega (arith, left_inside bytes i byte s e)

-- the same by places
pub course_passes : (bytes : List ℕ) (a : Lexeme) (s t : List ℕ) (b : Lexeme) (i j : ℕ) → Course a s t b → s ≡ drop i bytes → j + length t ≡ i + length s → Passes bytes i a j b
course_passes bytes a s t b i j here e at = subst (λ k. Passes bytes i a k a) (let same : i ≡ j = omega (arith, at) in same) stay
course_passes bytes a (byte ∷ s) t b i j (on {after = after} l n p) e at =
    let unpaired : is_lone_in a bytes i ≡ false = sym (lone_in_left a bytes i) ∙ ap (λ r. is_lone_in a r 0) (sym e) ∙ l in
    let goes : next a (get_or bytes i 0) ≡ Some after = ap (next a) (sym (first_left bytes i byte s e)) ∙ n in
    passes_on bytes i (suc i) a after j b (go stay (left_inside bytes i byte s e) unpaired goes) (course_passes bytes after s t b (suc i) j p (one_on bytes i byte s e) (omega (arith, at)))

-- and as the front of a word
pub course_spells : (a : Lexeme) (s t : List ℕ) (b : Lexeme) (i j k : ℕ) (u : List ℕ) (kind : Kind) → Course a s t b → Spells b j t k u kind → j + length t ≡ i + length s → Spells a i s k u kind
course_spells a s t b i j k u kind here h at = subst (λ n. Spells a n s k u kind) (let same : j ≡ i = omega (arith, at) in same) h
course_spells a (byte ∷ s) t b i j k u kind (on {after = after} l n p) h at = more n (course_spells after s t b (suc i) j k u kind p h (omega (arith, at)))
