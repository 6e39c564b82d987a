-- What is held of a file.
use Rattle.std.specs.Prelude.{ℕ, ◌-◌, List, take, drop}
use Rattle.side_world.specs.declared.disk.Disk.{Ghosts}
use Rattle.disk_journal.specs.declared.window.Window.{Window}

module _ {D : Type 0} {disking : Ghosts D} where
  abbrev pub disk_of : Window D disking → D
  disk_of window = window.disk

  -- the place of the first byte that was not passed
  abbrev pub place_of : Window D disking → ℕ
  place_of window = window.at

  -- what was read and not passed
  abbrev pub held_of : Window D disking → List ℕ
  held_of window = drop window.start window.buffer.items

  -- what was passed last
  abbrev pub passed_of : Window D disking → List ℕ
  passed_of window = take (window.start - window.last) (drop window.last window.buffer.items)
