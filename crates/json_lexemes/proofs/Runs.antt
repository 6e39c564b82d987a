-- Passing over bytes, several at a time.
use Rattle.std.proofs.Common.{◌≡◌, inr, ℕ, suc, ◌+◌, ◌<◌, ◌≤◌, Bool, true, false, ◌&&◌, eqb, List, length, get_or, Some, None, refl, sym, ap, subst, ◌∙◌, arith}
use Rattle.std.proofs.Common.{eq-eqb}
use Rattle.std.specs.Prelude.{Result, Ok, Err, IfOk, IfErr}
use Rattle.json_lexemes.specs.declared.kind.Kind.{Kind}
use Rattle.json_lexemes.specs.declared.lexeme.Lexeme.{Lexeme}
use Rattle.json_lexemes.specs.declared.lexeme.Lexeme.TheVariants.{Plain as plain}
use Rattle.json_lexemes.specs.Lexeme.{next, ends}
use Rattle.json_lexemes.specs.Surrogates.{is_lone, is_lone_in, is_numbered}
use Rattle.json_lexemes.specs.Scan.{Passes, stay, go, IsOver, EndsAt, BreaksAt}

pub passes_on : (bytes : List ℕ) (i j : ℕ) (a b : Lexeme) (k : ℕ) (c : Lexeme) → Passes bytes i a j b → Passes bytes j b k c → Passes bytes i a k c
passes_on bytes i j a b k c p stay = p
passes_on bytes i j a b k c p (go q lt paired e) = go (passes_on bytes i j a b _ _ p q) lt paired e

pub passes_low : (bytes : List ℕ) (i : ℕ) (a : Lexeme) (j : ℕ) (b : Lexeme) → Passes bytes i a j b → i ≤ j
passes_low bytes i a j b stay = omega arith
passes_low bytes i a j b (go p lt paired e) = omega (arith, passes_low bytes i a _ _ p)

pub passes_high : (bytes : List ℕ) (i : ℕ) (a : Lexeme) (j : ℕ) (b : Lexeme) → i ≤ length bytes → Passes bytes i a j b → j ≤ length bytes
passes_high bytes i a j b h stay = h
passes_high bytes i a j b h (go p lt paired e) = omega (arith, lt)

not_numbered : (bytes : List ℕ) (at : ℕ) → eqb (get_or bytes at 0) 92 ≡ false → is_numbered bytes at ≡ false
unfolding is_numbered
not_numbered bytes at e = rw e refl

pub not_lone : (bytes : List ℕ) (at : ℕ) (high : Bool) → eqb (get_or bytes at 0) 92 ≡ false → is_lone high bytes at ≡ false
not_lone bytes at high e = let no : is_numbered bytes at ≡ false = not_numbered bytes at e in rw no refl

and_true : (b : Bool) → (b && true) ≡ b
and_true true = refl
and_true false = refl

-- no byte
pub no_run : (bytes : List ℕ) (i : ℕ) (high : Bool) → Passes bytes i (plain high) i (plain (high && eqb i i))
no_run bytes i high = subst (λ b. Passes bytes i (plain high) i (plain b)) (sym (ap (λ b. high && b) (eq-eqb i i refl) ∙ and_true high)) stay

pub if_ok : {T E : Type 0} (r : Result T E) (P Q : T → Type 0) → IfOk r P → ((x : T) → P x → Q x) → IfOk r Q
if_ok (Ok x) P Q h f = f x h
if_ok (Err e) P Q h f = tt

pub if_err : {T E : Type 0} (r : Result T E) (P Q : E → Type 0) → IfErr r P → ((x : E) → P x → Q x) → IfErr r Q
if_err (Ok x) P Q h f = tt
if_err (Err e) P Q h f = f e h

pub go_on : (bytes : List ℕ) (i j k : ℕ) (a b c after : Lexeme) → Passes bytes i a j b → Passes bytes j b k c → k < length bytes → is_lone_in c bytes k ≡ false → next c (get_or bytes k 0) ≡ Some after → Passes bytes i a (k + 1) after
go_on bytes i j k a b c after p q lt paired e = subst (λ m. Passes bytes i a m after) (let one : suc k ≡ k + 1 = omega arith in one) (go (passes_on bytes i j a b k c p q) lt paired e)

pub ended_at : (bytes : List ℕ) (i j k end : ℕ) (a b c : Lexeme) (kind : Kind) → Passes bytes i a j b → Passes bytes j b k c → ends c ≡ Some kind → end ≡ k → IsOver bytes k c → EndsAt bytes i a end kind
ended_at bytes i j k end a b c kind p q e there over = subst (λ m. EndsAt bytes i a m kind) (sym there) (record { word = c; passes = passes_on bytes i j a b k c p q; ends_there = e; over = over })

pub broken_at : (bytes : List ℕ) (i j k end : ℕ) (a b c : Lexeme) → Passes bytes i a j b → Passes bytes j b k c → ends c ≡ None → end ≡ k → IsOver bytes k c → BreaksAt bytes i a end
broken_at bytes i j k end a b c p q e there over = subst (λ m. BreaksAt bytes i a m) (sym there) (record { word = c; passes = passes_on bytes i j a b k c p q; why = inr (e, over) })

pub broken_on : (bytes : List ℕ) (i j k : ℕ) (a b : Lexeme) → Passes bytes i a j b → BreaksAt bytes j b k → BreaksAt bytes i a k
broken_on bytes i j k a b p h = record { word = h.word; passes = passes_on bytes i j a b k h.word p h.passes; why = h.why }

pub over_at_end : (bytes : List ℕ) (k : ℕ) (c : Lexeme) → k ≡ length bytes → IsOver bytes k c
over_at_end bytes k c e lt = absurd (omega (arith, e, lt))
