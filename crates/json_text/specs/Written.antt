-- What reading a text's spelling comes to.
use Rattle.std.specs.Prelude.{◌≡◌, ℕ, ◌+◌, List, length, None}
use Rattle.json_lexemes.specs.declared.kind.Kind.TheVariants as kinds
use Rattle.json_text.specs.declared.spot.Spot.{Spot}
use Rattle.json_text.specs.Forest.{empty, one}
use Rattle.json_text.specs.Grammar.{IsText}
use Rattle.json_text.specs.Faults.{IsClean}
use Rattle.json_lexemes.specs.Spelling.{string_of}
use Rattle.json_text.specs.Unescape.{text_shown}

-- a string that takes all of so many bytes, and has no name
abbrev pub whole_string : ℕ → Spot
whole_string end = record { kind = kinds.Text; span = record { start = 0; end = end }; name = None }

-- The spelling is a JSON text of that one value, in which nothing is wrong, so that a reader takes it; and the value is
-- the text.
pub record ReadsBack (text : List ℕ) : Type 0 where
  pub spells : IsText (string_of text) (one (whole_string (length (string_of text))) empty)
  pub clean : IsClean (string_of text) (length (string_of text) + 1)
  pub same : text_shown (string_of text) (whole_string (length (string_of text))) ≡ text
