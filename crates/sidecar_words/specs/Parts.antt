-- A text of two parts with a comma between them.
use Rattle.std.specs.Prelude.{◌≡◌, ◌==◌, ℕ, false, List, ◌∷◌, ◌++◌, All}
use Rattle.sidecar_words.specs.declared.drilling.Parts.{Parts}

-- no comma stands in the text
abbrev pub Lacks : List ℕ → Type 0
Lacks text = All (λ byte. (byte == 44) ≡ false) text

-- the text is cut at its first comma
pub record IsCut (text : List ℕ) (parts : Parts) : Type 0 where
  pub whole : text ≡ parts.front.now ++ 44 ∷ parts.back.now
  pub first : Lacks parts.front.now
