-- Where a line may stand behind a front, and why it is refused.
use Rattle.std.specs.Prelude.{ℕ, Bool, true, false, ◌&&◌, ◌||◌, ◌==◌, nat_lt, bytes_eq, if◌then◌else◌, List, [], ◌∷◌, length, Option, Some, None, Result, Ok, Err}
use Rattle.yaml_lines.specs.Leaf.{Leaf}
use Rattle.yaml_lines.specs.LineParts.{Line, Name, Value, Parts, dashed, member, alone, name_in, value_in, column_of, first_of, Spelled, good, left_out, wrong}
use Rattle.yaml_subset.specs.declared.error.YamlErr.{YamlErr}
use Rattle.yaml_subset.specs.declared.error.YamlErr.TheVariants.{Tab, Indent, LeftOut, Repeated, Scalar}
use Rattle.yaml_subset.specs.declared.open.Holder.{Holder}
use Rattle.yaml_subset.specs.declared.open.Holder.TheVariants as holders
use Rattle.yaml_subset.specs.Tree.{What, absent, leaf, rows, Forest, empty, grows, one, append}
use Rattle.yaml_subset.specs.Layout.{may_hold, max_levels, nests}
use Rattle.yaml_subset.specs.Front.{Frame, Front}
use Rattle.yaml_subset.specs.Line.{text_said}

abbrev pub is_holder : Holder → Holder → Bool
is_holder holders.File holders.File = true
is_holder holders.Mapping holders.Mapping = true
is_holder holders.Sequence holders.Sequence = true
is_holder holders.File holders.Mapping = false
is_holder holders.File holders.Sequence = false
is_holder holders.Mapping holders.File = false
is_holder holders.Mapping holders.Sequence = false
is_holder holders.Sequence holders.File = false
is_holder holders.Sequence holders.Mapping = false

-- the last row has nothing so far
abbrev pub is_absent : What → Bool
is_absent absent = true
is_absent (leaf line column value) = false
is_absent (rows holder column) = false

-- it has a plain scalar
abbrev pub is_plain : What → Bool
is_plain absent = false
is_plain (leaf line column value) = value.plain
is_plain (rows holder column) = false

-- the row that is open, with what it has
abbrev pub with_row : Frame → What → Forest → Forest
with_row f what inner = append f.before (one f.line f.name what inner)

-- The rows of this kind in this column take one more: what stands deeper is closed, and a sequence in the column of its name.
unfoldable pub turned : Holder → ℕ → ℕ → List ℕ → List Frame → What → Forest → Option (List Frame)
turned holder column line name [] what inner = None
turned holder column line name (f ∷ outer) what inner =
    if is_holder f.holder holder && f.column == column then Some (record { holder = f.holder; column = f.column; before = with_row f what inner; line = line; name = name } ∷ outer)
    else if nat_lt f.column column then None
    else turned holder column line name outer (rows f.holder f.column) (with_row f what inner)

-- rows of this kind may begin in this column
abbrev pub may_begin : List Frame → Holder → ℕ → Bool
may_begin [] holders.File column = true
may_begin [] holders.Mapping column = false
may_begin [] holders.Sequence column = false
may_begin (f ∷ outer) holder column = may_hold f.holder f.column holder column

-- a value may begin in this column
abbrev pub may_have : List Frame → ℕ → Bool
may_have [] column = false
may_have (f ∷ outer) column = nat_lt f.column column

-- one level more would be too deep
abbrev pub is_deep : List Frame → Bool
is_deep frames = nat_lt max_levels (length frames)

abbrev pub has_column : ℕ → List Frame → Bool
has_column column [] = false
has_column column (f ∷ outer) = f.column == column || has_column column outer

-- why something may not stand in its column
pub data Misplaced : Type 0 where
  too_deep : Misplaced
  no_column : Misplaced
  other_kind : Misplaced

abbrev pub turned_or : Option (List Frame) → Bool → Result Front Misplaced
turned_or (Some frames) has = Ok (record { frames = frames; tip = absent })
turned_or None true = Err other_kind
turned_or None false = Err no_column

-- the front with one more row in this column, of rows that are open or begin here
unfoldable pub with_lead : Holder → ℕ → ℕ → List ℕ → Front → Result Front Misplaced
with_lead holder column line name front =
    if is_absent front.tip && may_begin front.frames holder column then
    (if is_deep front.frames then Err too_deep
    else Ok (record { frames = record { holder = holder; column = column; before = empty; line = line; name = name } ∷ front.frames; tip = absent }))
    else turned_or (turned holder column line name front.frames front.tip empty) (has_column column front.frames)

abbrev pub misplaced_in : Bool → Misplaced
misplaced_in true = other_kind
misplaced_in false = no_column

-- the last row has this value
unfoldable pub with_value : Bool → ℕ → What → Front → Result Front Misplaced
with_value counts column what front =
    if is_absent front.tip && may_have front.frames column then
    (if counts && is_deep front.frames then Err too_deep else Ok (record { frames = front.frames; tip = what }))
    else Err (misplaced_in (has_column column front.frames))

abbrev pub name_is_taken : Forest → List ℕ → Bool
name_is_taken empty name = false
name_is_taken (grows line other what inner later) name = bytes_eq name other || name_is_taken later name

-- the member that is open has the name of an earlier one
abbrev pub is_repeated : List Frame → Bool
is_repeated [] = false
is_repeated (f ∷ outer) = is_holder f.holder holders.Mapping && name_is_taken f.before f.name

-- a line's error where a part that begins with the byte is misplaced
abbrev pub misplaced : ℕ → ℕ → Misplaced → YamlErr
misplaced line first too_deep = LeftOut line first
misplaced line first no_column = Indent line
misplaced line first other_kind = Scalar line

abbrev pub at_line : ℕ → ℕ → Result Front Misplaced → Result Front YamlErr
at_line line first (Ok front) = Ok front
at_line line first (Err why) = Err (misplaced line first why)

infixl 10 ◌>>=◌
abbrev pub ◌>>=◌ : Result Front YamlErr → (Front → Result Front YamlErr) → Result Front YamlErr
(Ok front) >>= f = f front
(Err e) >>= f = Err e

abbrev pub with_start : Line → Bool → Front → Result Front YamlErr
with_start line true front = at_line line.number (first_of line.parts) (with_lead holders.File 0 line.number [] front)
with_start line false front = Ok front

abbrev pub with_name : ℕ → Option Name → Front → Result Front YamlErr
with_name number None front = Ok front
with_name number (Some name) front = at_line number name.first (with_lead holders.Mapping name.column number (text_said name.text) front)

abbrev pub counts_as_level : Spelled Leaf → Bool
counts_as_level (good value) = nests value
counts_as_level (left_out byte) = false
counts_as_level (wrong counts) = counts

-- what is not spelled well is refused in the end, and taken as absent until then
abbrev pub leaf_said : ℕ → ℕ → Spelled Leaf → What
leaf_said line column (good value) = leaf line column value
leaf_said line column (left_out byte) = absent
leaf_said line column (wrong counts) = absent

abbrev pub with_leaf : ℕ → Option Value → Front → Result Front YamlErr
with_leaf number None front = Ok front
with_leaf number (Some v) front = at_line number v.first (with_value (counts_as_level v.leaf) v.column (leaf_said number v.column v.leaf) front)

-- a name, and a value behind it
abbrev pub with_both : ℕ → Option Name → Option Value → Front → Result Front YamlErr
with_both number name v front = with_name number name front >>= λ third. with_leaf number v third

abbrev pub with_parts : ℕ → Parts → Front → Result Front YamlErr
with_parts number (dashed column name v) front = at_line number 45 (with_lead holders.Sequence column number [] front) >>= λ second. with_name number name second >>= λ third. with_leaf number v third
with_parts number (member name v) front = with_name number (Some name) front >>= λ second. with_leaf number v second
with_parts number (alone v) front = with_leaf number (Some v) front

-- a plain scalar would go on over this line
abbrev pub goes_on : Line → Front → Bool
goes_on line front = is_plain front.tip && may_have front.frames (column_of line.parts)

abbrev pub byte_left_out : {T : Type 0} → Spelled T → Option ℕ
byte_left_out (good x) = None
byte_left_out (left_out byte) = Some byte
byte_left_out (wrong counts) = None

abbrev pub name_left_out : Option Name → Option ℕ
name_left_out None = None
name_left_out (Some name) = byte_left_out name.text

abbrev pub value_left_out : Option Value → Option ℕ
value_left_out None = None
value_left_out (Some v) = byte_left_out v.leaf

abbrev pub first_of_two : Option ℕ → Option ℕ → Option ℕ
first_of_two (Some byte) other = Some byte
first_of_two None other = other

-- the first byte of what is left out in the line
abbrev pub what_left_out : Line → Option ℕ
what_left_out line = first_of_two (name_left_out (name_in line.parts)) (value_left_out (value_in line.parts))

abbrev pub is_wrong : {T : Type 0} → Spelled T → Bool
is_wrong (good x) = false
is_wrong (left_out byte) = false
is_wrong (wrong counts) = true

abbrev pub wrong_name_in : Option Name → Bool
wrong_name_in None = false
wrong_name_in (Some name) = is_wrong name.text

abbrev pub wrong_value_in : Option Value → Bool
wrong_value_in None = false
wrong_value_in (Some v) = is_wrong v.leaf

abbrev pub has_wrong : Line → Bool
has_wrong line = wrong_name_in (name_in line.parts) || wrong_value_in (value_in line.parts)

abbrev pub repeats : Option Name → List Frame → Bool
repeats None frames = false
repeats (Some name) frames = is_repeated frames

-- a line that is placed is refused for what is wrong in it, then for its name
abbrev pub placed : Line → Result Front YamlErr → Result Front YamlErr
placed line (Err error) = Err error
placed line (Ok front) =
    if has_wrong line then Err (Scalar line.number)
    else if repeats (name_in line.parts) front.frames then Err (Repeated line.number)
    else Ok front

abbrev pub unless_left_out : Line → Option ℕ → Front → Result Front YamlErr
unless_left_out line (Some byte) front = Err (LeftOut line.number byte)
unless_left_out line None front = placed line (with_parts line.number line.parts front)

abbrev pub unless_goes_on : Line → Front → Result Front YamlErr
unless_goes_on line front = if goes_on line front then Err (LeftOut line.number (first_of line.parts)) else unless_left_out line (what_left_out line) front

-- The front with the line, or why the line is refused: a tab in its indent, a plain scalar that goes on over it, what is
-- left out by how it begins or for its depth, its place, what is wrong in it, a name that is there already, in this order.
unfoldable pub after_line : Line → Front → Result Front YamlErr
after_line line front =
    if line.tab then Err (Tab line.number)
    else with_start line line.starts front >>= λ first. unless_goes_on line first
