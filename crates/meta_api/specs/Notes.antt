-- What a book of metadata entries stands for.
use Rattle.std.specs.Prelude.{◌≡◌, List, [], length, refl}
use Rattle.meta_api.specs.declared.command.Pair.{Pair}
use Rattle.meta_api.specs.declared.notes.Notes.{Notes}
use Rattle.meta_api.specs.History.{Step, book_after}

-- its names with their values
abbrev pub pairs_of : Notes → List Pair
pairs_of notes = notes.pairs.items

-- after this history from the book `first`
pub record Stands (first : Notes) (history : List Step) (notes : Notes) : Type 0 where
  pub pairs : pairs_of notes ≡ book_after (pairs_of first) history
  pub used : notes.used ≡ length history

-- a book that was told nothing stands for the empty history
pub opens : (first : Notes) → first.used ≡ 0 → Stands first [] first
opens first unused = record { pairs = refl; used = unused }
