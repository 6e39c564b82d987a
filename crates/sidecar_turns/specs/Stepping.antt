-- What a turn of delivery does to the seats that it is lent.
use Rattle.std.specs.Prelude.{List}
use Rattle.turn_cell.specs.declared.entry.Entry.{Entry}
use Rattle.turn_cell.specs.declared.object.Object.{Ghosts}
use Rattle.turn_cell.specs.Growth.{Grew}
use Rattle.turn_cell.specs.Sitting.{Begun, Sitting}

-- by these steps a seat of the cell went on
abbrev pub Grows : {O C R : Type 0} → Ghosts O C R → Begun O → Sitting O C R → Sitting O C R → List (Entry C R) → Type 0
Grows object cell seat seat' steps = Grew object cell.first seat steps seat'
