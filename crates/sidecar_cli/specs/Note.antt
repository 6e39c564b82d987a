-- What the note gets.
use Rattle.std.specs.Prelude.{◌≡◌, ◌≤◌, ◌⊎◌, ℕ, List, [], ◌∷◌}
use Rattle.conn_serve.specs.Ends.{Cut, Sent, SinkAt}

-- a text was written whole, or the note failed and got a front of the text; its count of faults doesn't fall
pub record IsNoted (note note' : SinkAt) (text : List ℕ) : Type 0 where
  pub went : Sent text note note' ⊎ Cut text note note'
  pub no_fewer : note.faults ≤ note'.faults

-- texts were written one after the other
abbrev pub AreNoted : SinkAt → SinkAt → List (List ℕ) → Type 0
AreNoted note note' [] = note' ≡ note
AreNoted note note' (text ∷ texts) = (between : SinkAt) × IsNoted note between text × AreNoted between note' texts
