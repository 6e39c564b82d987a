-- Values at other places.
use Rattle.std.specs.Prelude.{ℕ, ◌+◌, ◌-◌, List, length, Option, Some, None}
use Rattle.json_text.specs.declared.spot.Span.{Span}
use Rattle.json_text.specs.declared.spot.Spot.{Spot}
use Rattle.json_text.specs.Forest.{Forest, empty, grows, one}
use Rattle.json_text.specs.Grammar.{IsText}
use Rattle.json_text.specs.Faults.{IsClean}
use Rattle.json_text.specs.Shape.{value_bytes}

abbrev pub moved_span : (ℕ → ℕ) → Span → Span
moved_span to span = record { start = to span.start; end = to span.end }

abbrev pub moved_name : (ℕ → ℕ) → Option Span → Option Span
moved_name to None = None
moved_name to (Some name) = Some (moved_span to name)

abbrev pub moved_spot : (ℕ → ℕ) → Spot → Spot
moved_spot to spot = record { kind = spot.kind; span = moved_span to spot.span; name = moved_name to spot.name }

-- the same values, each place of which goes to another
abbrev pub moved : (ℕ → ℕ) → Forest → Forest
moved to empty = empty
moved to (grows spot children later) = grows (moved_spot to spot) (moved to children) (moved to later)

-- so many places back
abbrev pub back : ℕ → ℕ → ℕ
back by place = place - by

-- a value by itself: its places count from its own start, and it has no name
abbrev pub alone : Spot → Forest → Forest
alone spot children = one (record { kind = spot.kind; span = moved_span (back spot.span.start) spot.span; name = None }) (moved (back spot.span.start) children)

-- its bytes are a text that has it alone
abbrev pub IsTextAlone : List ℕ → Spot → Forest → Type 0
IsTextAlone bytes spot children = IsText (value_bytes bytes spot) (alone spot children)

-- and nothing is wrong with them
abbrev pub IsCleanAlone : List ℕ → Spot → Type 0
IsCleanAlone bytes spot = IsClean (value_bytes bytes spot) (length (value_bytes bytes spot) + 1)
