-- What holds of a pass, and what is done to one as a whole: of each kind the same.
use Rattle.std.specs.Prelude.{◌≡◌, ℕ, map}
use Rattle.turn_cell.specs.Sitting.{root_of}
use Rattle.turn_cell.specs.Passes.{EachSeated, EachRoot, EachSplitOff, EachSound, EachSplit, EachMet}
use Rattle.turn_pass.specs.Pass.{MayEachSplit, EachMayMeet}
use Rattle.sidecar_objects.specs.Kind.{Kind, Kinds, CellsAt, SeatsAt, cells_in, seats_in}

-- a pass of these cells: a seat of each, at the same place
pub record IsPassOf {O : Type 0} (cells : CellsAt O) (seats : SeatsAt O) : Type 0 where
  pub each : (kind : Kind) → EachSeated (cells_in cells kind) (seats_in seats kind)

-- the pass of the root seats, with `out` passes that are split off and not met
pub record IsRootPass {O : Type 0} (out : ℕ) (cells : CellsAt O) (seats : SeatsAt O) : Type 0 where
  pub each : (kind : Kind) → EachRoot out (cells_in cells kind) (seats_in seats kind)

-- the pass of the root seats, with every other pass met: the cells may be closed
abbrev pub IsLone : {O : Type 0} → CellsAt O → SeatsAt O → Type 0
IsLone = IsRootPass 0

-- what holds of every seat, of each: its history is legal, and its own entries are in it
pub record IsSoundPass {O : Type 0} (kinds : Kinds O) (cells : CellsAt O) (seats : SeatsAt O) : Type 0 where
  pub each : (kind : Kind) → EachSound (kinds kind) (cells_in cells kind) (seats_in seats kind)

-- each is the root of its cell, of which fewer than 65,536 seats were made
pub record MaySplit {O : Type 0} (cells : CellsAt O) (seats : SeatsAt O) : Type 0 where
  pub each : (kind : Kind) → MayEachSplit (cells_in cells kind) (seats_in seats kind)

-- each is the root of its cell
pub record MayMeet {O : Type 0} (cells : CellsAt O) (seats : SeatsAt O) : Type 0 where
  pub each : (kind : Kind) → EachMayMeet (cells_in cells kind) (seats_in seats kind)

-- each was split off the root of its cell
pub record IsSplitOffPass {O : Type 0} (cells : CellsAt O) (seats : SeatsAt O) : Type 0 where
  pub each : (kind : Kind) → EachSplitOff (cells_in cells kind) (seats_in seats kind)

-- the roots of cells that have just begun
pub record AreRoots {O : Type 0} (cells : CellsAt O) (seats : SeatsAt O) : Type 0 where
  pub each : (kind : Kind) → seats_in seats kind ≡ map root_of (cells_in cells kind)

-- each root was split: they are `after` then, and the seats that were split off are `other`
pub record SplitPass {O : Type 0} (roots after other : SeatsAt O) : Type 0 where
  pub each : (kind : Kind) → EachSplit (seats_in roots kind) (seats_in after kind) (seats_in other kind)

-- each root met the seat at its place
pub record MetPass {O : Type 0} (kinds : Kinds O) (cells : CellsAt O) (roots others after : SeatsAt O) : Type 0 where
  pub each : (kind : Kind) → EachMet (kinds kind) (cells_in cells kind) (seats_in roots kind) (seats_in others kind) (seats_in after kind)
