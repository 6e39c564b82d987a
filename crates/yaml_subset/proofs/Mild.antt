-- Which errors a line may have.
use Rattle.std.proofs.Common.{◌≡◌, ℕ, [], Bool, true, false, Option, Some, None, Result, Ok, Err, subst}
use Rattle.std.specs.Prelude.{if◌then◌else◌}
use Rattle.yaml_lines.specs.LineParts.{Line, Name, Value, Parts, dashed, member, alone, name_in, first_of}
use Rattle.yaml_subset.specs.declared.error.YamlErr.{YamlErr}
use Rattle.yaml_subset.specs.declared.error.YamlErr.TheVariants.{Tab, Indent, LeftOut, Repeated, Scalar, NotUtf8, NoMemory}
use Rattle.yaml_subset.specs.declared.open.Holder.TheVariants as holders
use Rattle.yaml_subset.specs.Front.{Front}
use Rattle.yaml_subset.specs.Line.{text_said}
use Rattle.yaml_subset.specs.Refusal.{Misplaced, too_deep, no_column, other_kind, at_line, ◌>>=◌, with_lead, with_value, with_start, with_name, with_leaf, with_parts, counts_as_level, leaf_said, goes_on, has_wrong, repeats, placed, unless_left_out, unless_goes_on, what_left_out, after_line}

-- a line is never refused as a file is
abbrev pub IsOfLine : YamlErr → Type 0
IsOfLine (Tab line) = Unit {0}
IsOfLine (Indent line) = Unit {0}
IsOfLine (LeftOut line what) = Unit {0}
IsOfLine (Repeated line) = Unit {0}
IsOfLine (Scalar line) = Unit {0}
IsOfLine (NotUtf8 at) = ⊥
IsOfLine NoMemory = ⊥

abbrev Mild : Result Front YamlErr → Type 0
Mild (Ok front) = Unit {0}
Mild (Err error) = IsOfLine error

mild_then : (r : Result Front YamlErr) (k : Front → Result Front YamlErr) → Mild r → ((f : Front) → Mild (k f)) → Mild (r >>= k)
mild_then (Ok front) k m n = n front
mild_then (Err error) k m n = m

mild_at : (line first : ℕ) (r : Result Front Misplaced) → Mild (at_line line first r)
mild_at line first (Ok front) = tt
mild_at line first (Err too_deep) = tt
mild_at line first (Err no_column) = tt
mild_at line first (Err other_kind) = tt

mild_name : (n : ℕ) (name : Option Name) (front : Front) → Mild (with_name n name front)
mild_name n None front = tt
mild_name n (Some name) front = mild_at n name.first (with_lead holders.Mapping name.column n (text_said name.text) front)

mild_leaf : (n : ℕ) (v : Option Value) (front : Front) → Mild (with_leaf n v front)
mild_leaf n None front = tt
mild_leaf n (Some v) front = mild_at n v.first (with_value (counts_as_level v.leaf) v.column (leaf_said n v.column v.leaf) front)

mild_both : (n : ℕ) (name : Option Name) (v : Option Value) (front : Front) → Mild (with_name n name front >>= λ third. with_leaf n v third)
mild_both n name v front = mild_then (with_name n name front) (λ third. with_leaf n v third) (mild_name n name front) (λ third. mild_leaf n v third)

mild_parts : (n : ℕ) (p : Parts) (front : Front) → Mild (with_parts n p front)
mild_parts n (dashed column name v) front = mild_then (at_line n 45 (with_lead holders.Sequence column n [] front)) (λ second. with_name n name second >>= λ third. with_leaf n v third) (mild_at n 45 (with_lead holders.Sequence column n [] front)) (λ second. mild_both n name v second)
mild_parts n (member name v) front = mild_both n (Some name) v front
mild_parts n (alone v) front = mild_leaf n (Some v) front

mild_placed : (line : Line) (r : Result Front YamlErr) → Mild r → Mild (placed line r)
mild_placed line (Err error) m = m
mild_placed line (Ok front) m = by_tests (has_wrong line) (repeats (name_in line.parts) front.frames)
  where
    by_tests : (w r : Bool) → Mild (if w then Err (Scalar line.number) else if r then Err (Repeated line.number) else Ok front)
    by_tests true r = tt
    by_tests false true = tt
    by_tests false false = tt

mild_left : (line : Line) (o : Option ℕ) (front : Front) → Mild (unless_left_out line o front)
mild_left line (Some byte) front = tt
mild_left line None front = mild_placed line (with_parts line.number line.parts front) (mild_parts line.number line.parts front)

mild_going : (line : Line) (front : Front) → Mild (unless_goes_on line front)
mild_going line front = by_going (goes_on line front)
  where
    by_going : (b : Bool) → Mild (if b then Err (LeftOut line.number (first_of line.parts)) else unless_left_out line (what_left_out line) front)
    by_going true = tt
    by_going false = mild_left line (what_left_out line) front

mild_start : (line : Line) (b : Bool) (front : Front) → Mild (with_start line b front)
mild_start line true front = mild_at line.number (first_of line.parts) (with_lead holders.File 0 line.number [] front)
mild_start line false front = tt

mild_line : (line : Line) (front : Front) → Mild (after_line line front)
unfolding after_line
mild_line line front = by_tab line.tab
  where
    by_tab : (b : Bool) → Mild (if b then Err (Tab line.number) else with_start line line.starts front >>= λ first. unless_goes_on line first)
    by_tab true = tt
    by_tab false = mild_then (with_start line line.starts front) (λ first. unless_goes_on line first) (mild_start line line.starts front) (λ first. mild_going line first)

pub line_error : (line : Line) (front : Front) (error : YamlErr) → after_line line front ≡ Err error → IsOfLine error
line_error line front error e = subst Mild e (mild_line line front)
