-- Which texts are rules.
use Rattle.std.specs.Prelude.{◌≡◌, ◌≤◌, ℕ, List, [], ◌∷◌, ◌++◌, Ok}
use Rattle.rule_value.specs.declared.part.Part.TheVariants as parts
use Rattle.rule_value.specs.declared.part.Word.{Word}
use Rattle.rule_expr.specs.Parts.{part_at, name_at, behind, after_blanks, quoted}
use Rattle.rule_value.specs.Trees
use Rattle.rule_value.specs.Trees.{Tree, Token, mark, name, quote, spelled, levels}

-- the text begins with the part, and `next` follows it and the blanks behind it
abbrev pub Stands : List ℕ → Token → List ℕ → Type 0
Stands text (mark part) next = (part_at text ≡ part) × (next ≡ behind text)
Stands text (name letters) next = ((word : Word) × (part_at text ≡ parts.Named word)) × (name_at text ≡ letters) × (next ≡ behind text)
Stands text (quote held) next = (part_at text ≡ parts.Quote) × (others : List ℕ) × (quoted text ≡ Ok (held, others)) × (next ≡ after_blanks others)

-- the text begins with these parts, and `rest` follows them
pub data Leads : List ℕ → List Token → List ℕ → Type 0 where
  here : {text : List ℕ} → Leads text [] text
  on : {text next rest : List ℕ} {token : Token} {tokens : List Token} → Stands text token next → Leads next tokens rest → Leads text (token ∷ tokens) rest

-- the text is a rule in which at most 32 brackets stand within one another
pub record IsRule (text : List ℕ) (tree : Tree Trees.or) : Type 0 where
  pub rest : List ℕ
  pub leads : Leads (after_blanks text) (spelled tree) rest
  pub ends : part_at rest ≡ parts.End
  pub within : levels tree ≤ 32

-- the parts up to a place are the first ones of a tree, in which any number of brackets may stand within one another
pub record IsFront (text rest : List ℕ) : Type 0 where
  pub tree : Tree Trees.or
  pub read : List Token
  pub later : List Token
  pub leads : Leads (after_blanks text) read rest
  pub same : spelled tree ≡ read ++ later
