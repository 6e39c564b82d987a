-- What a row or a value adds to what has been read.
use Rattle.std.specs.Prelude.{◌≡◌, ℕ, Bool, true, ◌&&◌, ◌∷◌, Some, Result, Ok}
use Rattle.yaml_lines.specs.declared.value.Leaf.{Leaf as LeafHeld}
use Rattle.yaml_lines.specs.declared.value.Spelled.{Spelled as SpelledHeld}
use Rattle.yaml_lines.specs.Shown.{leaf_shown, spelled_shown}
use Rattle.yaml_subset.specs.declared.error.YamlErr.{YamlErr}
use Rattle.yaml_subset.specs.declared.grow.Row.{Row}
use Rattle.yaml_subset.specs.declared.reader.Reader.{Reader}
use Rattle.yaml_subset.specs.Tree.{absent, leaf, empty}
use Rattle.yaml_subset.specs.Front.{Frame, Front}
use Rattle.yaml_subset.specs.Refusal.{is_absent, may_begin, turned, may_have, at_line, with_lead, leaf_said}
use Rattle.yaml_subset.specs.Held.{Stands, Led, Placed, Turned}
use Rattle.yaml_subset.specs.Kept.{kept_count}

-- rows of which this is the first one
abbrev pub first_frame : Row → Frame
first_frame row = record { holder = row.holder; column = row.column; before = empty; line = row.line; name = row.name.items }

-- rows began with this one, where the last row had nothing
abbrev pub Begins : Reader → Reader → Row → Type 0
Begins old new row = (front : Front) → Stands old front → front.tip ≡ absent → Stands new (record { frames = first_frame row ∷ front.frames; tip = absent })

-- the rows of which so many parts are kept took this one, and it is told whether its name is taken
abbrev pub Turns : Reader → Reader → ℕ → Row → Bool → Type 0
Turns old new count row repeated = (front : Front) → Stands old front → kept_count row.holder row.column front.frames ≡ Some count → Turned new repeated (turned row.holder row.column row.line row.name.items front.frames front.tip empty)

-- this row may be the first one of rows in the last row
abbrev pub may_open : Front → Row → Bool
may_open front row = is_absent front.tip && may_begin front.frames row.holder row.column

-- the lead of this row, which the byte `first` begins, was taken or refused
abbrev pub IsLed : Reader → Result Bool YamlErr → Row → ℕ → Front → Type 0
IsLed new result row first front = Led new result (at_line row.line first (with_lead row.holder row.column row.line row.name.items front))

-- the last row, which had nothing and may have something in this column, has this value
abbrev pub Sets : Reader → Reader → ℕ → LeafHeld → Type 0
Sets old new line value = (front : Front) (column : ℕ) → Stands old front → front.tip ≡ absent → may_have front.frames column ≡ true → Stands new (record { frames = front.frames; tip = leaf line column (leaf_shown value) })

-- the same of what is spelled, where it spells something, unless memory ran out
abbrev pub SetsSpelled : Reader → Reader → Result (Unit {0}) YamlErr → ℕ → SpelledHeld LeafHeld → Type 0
SetsSpelled old new result line value = (front : Front) (column : ℕ) → Stands old front → front.tip ≡ absent → may_have front.frames column ≡ true → Placed new result (Ok (record { frames = front.frames; tip = leaf_said line column (spelled_shown leaf_shown value) }))
