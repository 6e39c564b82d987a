-- Books of a ledger that was told nothing.
use Rattle.std.specs.Prelude.{◌≡◌, length}
use Rattle.ledger_core.specs.declared.books.Books.{Books}

-- no rows, and nothing counted
pub record AreEmpty (books : Books) : Type 0 where
  pub waiting : length books.waiting ≡ 0
  pub held : length books.held ≡ 0
  pub made : books.made ≡ 0
  pub claims : books.claims ≡ 0
  pub owed : books.owed ≡ 0
  pub done : books.done ≡ 0
  pub dropped : books.dropped ≡ 0
  pub dead : books.dead ≡ 0
  pub bytes : books.bytes ≡ 0
