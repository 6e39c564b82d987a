-- What the reader's own steps rest on.
use Rattle.std.proofs.Common.{◌≡◌, ℕ, zero, suc, ◌+◌, ◌≤◌, Bool, true, false, eqb, List, [], ◌∷◌, length, get_or, Option, Some, sym, ap, ◌∙◌, arith}
use Rattle.json_text.specs.declared.part.Bracket.{Bracket}
use Rattle.json_text.specs.declared.part.Part.{Part}
use Rattle.json_text.specs.declared.part.Opening.{Opening}
use Rattle.json_lexemes.specs.declared.lexeme.Lexeme.{Lexeme}
use Rattle.json_lexemes.specs.declared.kind.Kind.{Kind}
use Rattle.json_text.specs.Grammar.{closes}
use Rattle.json_lexemes.specs.Scan.{EndsAt}
use Rattle.json_text.specs.Reading.{innermost}
use Rattle.json_text.proofs.Tables.{false_true, none_some, closes_level, is_it}
use Rattle.std.proofs.lemmas.List.{nil_from_length}
use Rattle.json_lexemes.proofs.Runs.{passes_low}

pub innermost_at : (xs : List Opening) (n : ℕ) (x : Opening) → n + 1 ≡ length xs → x ≡ get_or xs n x → Some x.bracket ≡ innermost xs
innermost_at [] n x e is = absurd (omega (arith, e))
innermost_at (a ∷ []) zero x e is = ap (λ o. Some o.bracket) is
innermost_at (a ∷ []) (suc n) x e is = absurd (omega (arith, e))
innermost_at (a ∷ b ∷ xs) zero x e is = absurd (omega (arith, e))
innermost_at (a ∷ b ∷ xs) (suc n) x e is = innermost_at (b ∷ xs) n x (omega (arith, e)) is

pub nothing_open : (level : Option Bracket) (here : Part) (byte : ℕ) (xs : List Opening) → level ≡ innermost xs → length xs ≡ 0 → closes level here byte ≡ true → ⊥
nothing_open level here byte [] e none c = let is = closes_level level here byte c in none_some is.0 ⊥ (sym e ∙ is.1)
nothing_open level here byte (x ∷ xs) e none c = omega (arith, none)

pub ends_low : (bytes : List ℕ) (i j : ℕ) (first : Lexeme) (kind : Kind) → EndsAt bytes i first j kind → i ≤ j
ends_low bytes i j first kind h = passes_low bytes i first j h.word h.passes

pub is_nothing : (xs : List Opening) (n : ℕ) (b : Bool) → n ≡ length xs → b ≡ eqb n 0 → b ≡ true → xs ≡ []
is_nothing xs n b same e holds = nil_from_length xs (sym same ∙ is_it n 0 (sym e ∙ holds))

pub not_nothing : (xs : List Opening) (n : ℕ) (b : Bool) → n ≡ length xs → b ≡ eqb n 0 → b ≡ false → xs ≡ [] → ⊥
not_nothing xs n b same e fails none = false_true ⊥ (sym fails ∙ e ∙ ap (λ m. eqb m 0) (same ∙ ap length none))
