-- What a JSON text holds: its values as a tree, each with its kind and the places where it stands.
use Rattle.std.specs.Prelude.{ℕ, ◌+◌}
use Rattle.json_text.specs.declared.spot.Spot.{Spot}

-- values in a row: the first one, the values that it holds, and the values after it
pub data Forest : Type 0 where
  empty : Forest
  grows : Spot → Forest → Forest → Forest

-- one value alone
abbrev pub one : Spot → Forest → Forest
one spot children = grows spot children empty

-- two rows, one after the other
abbrev pub append : Forest → Forest → Forest
append empty later = later
append (grows spot children rest) later = grows spot children (append rest later)

-- how many values, at any depth
abbrev pub count : Forest → ℕ
count empty = 0
count (grows spot children rest) = 1 + (count children + count rest)
