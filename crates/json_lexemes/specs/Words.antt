-- Words of the grammar beside those of the productions.
use Rattle.std.specs.Prelude.{◌≡◌, ℕ, suc, ◌+◌, List, ◌∷◌, ◌++◌, length, Some}
use Rattle.json_lexemes.specs.declared.kind.Kind.{Kind}
use Rattle.json_lexemes.specs.declared.lexeme.Lexeme.{Lexeme}
use Rattle.json_lexemes.specs.Lexeme.{begins, Spells}
use Rattle.json_lexemes.specs.Productions.{IsWord}

-- of the bytes s that stand at place i, those up to place j, where t stands, are a word of the grammar
abbrev pub HasWord : Kind → ℕ → List ℕ → ℕ → List ℕ → Type 0
HasWord kind i s j t = (byte : ℕ) × (others : List ℕ) × (first : Lexeme) × (s ≡ byte ∷ others) × (begins byte ≡ Some first) × Spells first (suc i) others j t kind

-- and of the productions
abbrev pub HasProduced : Kind → ℕ → List ℕ → ℕ → List ℕ → Type 0
HasProduced kind i s j t = (bytes : List ℕ) × (s ≡ bytes ++ t) × (j ≡ i + length bytes) × IsWord kind bytes
