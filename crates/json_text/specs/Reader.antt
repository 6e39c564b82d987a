-- Where a reader stands, for the contracts of its steps.
use Rattle.std.specs.Prelude.{◌≡◌, false, slice_index, Option, None}
use Rattle.json_text.specs.declared.part.Bracket.{Bracket}
use Rattle.json_text.specs.declared.part.Part.{Part}
use Rattle.json_text.specs.declared.reader.Reader.{Reader}
use Rattle.json_text.specs.Grammar.{closes, turns}
use Rattle.json_lexemes.specs.Scan.{IsTextUpTo}
use Rattle.json_text.specs.Between.{Between}
use Rattle.json_text.specs.Reading.{Reads}

-- the reader stands in this part, and knows how far the bytes are UTF-8
pub record IsReader (r : Reader) (here : Part) : Type 0 where
  pub reads : Reads r.bytes.now r.at here r.nodes.items r.opened.items
  pub known : IsTextUpTo r.bytes.now r.text

-- it faces a byte, in this list, map or text
pub record Faces (r : Reader) (here : Part) (level : Option Bracket) : Type 0 where
  pub reader : IsReader r here
  pub between : Between r.bytes.now r.at level r.opened.items

-- that neither closes anything nor is a comma or a colon
pub record FacesOther (r : Reader) (here : Part) (level : Option Bracket) : Type 0 where
  pub faces : Faces r here level
  pub no_close : closes level here (slice_index r.bytes.now r.at) ≡ false
  pub no_turn : turns level here (slice_index r.bytes.now r.at) ≡ None
