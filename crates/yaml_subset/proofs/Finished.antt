-- A reader between two lines, and what it has in the end.
use Rattle.std.proofs.Common.{◌≡◌, List, [], ◌∷◌, ◌++◌, refl, sym, ap, subst, ◌∙◌, append_assoc, append-nil, Option, Some, None, Err}
use Rattle.std.specs.Prelude.{map, MatchOption}
use Rattle.yaml_lines.specs.declared.line.Line.{Line as LineHeld}
use Rattle.yaml_lines.specs.LineShown.{line_shown}
use Rattle.yaml_lines.specs.LineParts.{Line}
use Rattle.yaml_subset.specs.declared.error.YamlErr.{YamlErr}
use Rattle.yaml_subset.specs.declared.error.YamlErr.TheVariants.{Tab, Indent, LeftOut, Repeated, Scalar, NotUtf8, NoMemory}
use Rattle.yaml_subset.specs.declared.open.Tip.TheVariants as tips
use Rattle.yaml_subset.specs.declared.reader.Reader.{Reader}
use Rattle.yaml_subset.specs.Tree.{What, absent, rows, Forest, empty, entries}
use Rattle.yaml_subset.specs.Front.{Frame, Front, IsTip}
use Rattle.yaml_subset.specs.Reading.{Says, IsRefused}
use Rattle.yaml_subset.specs.Refusal.{with_row, after_line}
use Rattle.yaml_subset.specs.Held.{node_shown, entries_open, openings, AreNames, Stands, StandsAfter, IsCause}
use Rattle.yaml_subset.specs.ReadLines.{Holds, IsLinesCause}
use Rattle.yaml_subset.proofs.Machine.{closed}
use Rattle.yaml_subset.proofs.Whole.{nothing_yet}
use Rattle.yaml_subset.proofs.Growth.{entries_with, with_none, closed_with, row_added}
use Rattle.yaml_subset.proofs.Laws.{AreRead, read_nothing, read_on, read_says, read_refused}

-- some of all lines have been read, and these are left
pub record Halfway (reader : Reader) (left all : List Line) : Type 0 where
  pub before : List Line
  pub front : Front
  pub whole : before ++ left ≡ all
  pub are : AreRead before front
  pub stands : Stands reader front

pub at_first : (reader : Reader) (all : List Line) → reader.nodes.items ≡ [] → reader.opened.items ≡ [] → reader.names.items ≡ [] → reader.tip ≡ tips.Absent → Halfway reader all all
unfolding entries_open openings AreNames
at_first reader all n o a t = record { before = []; front = nothing_yet; whole = refl; are = read_nothing; stands = record { nodes = ap (map node_shown) n; openings_are = o; names_are = a; tip = t } }

pub one_more : (old new : Reader) (line : Line) (left rest all : List Line) (h : Halfway old left all) → left ≡ line ∷ rest → StandsAfter new (after_line line h.front) → Halfway new rest all
one_more old new line left rest all h e s = record {
  before = h.before ++ (line ∷ []);
  front = s.next;
  whole = append_assoc h.before (line ∷ []) rest ∙ ap (λ l. h.before ++ l) (sym e) ∙ h.whole;
  are = read_on h.before line h.front s.next h.are s.is;
  stands = s.stands;
}

refused_by : (error : YamlErr) (reader : Reader) (line : Line) (left rest all : List Line) (h : Halfway reader left all) → left ≡ line ∷ rest → after_line line h.front ≡ Err error → IsRefused all error
refused_by error reader line left rest all h e why = subst (λ (l : List Line). IsRefused l error) (ap (λ l. h.before ++ l) (sym e) ∙ h.whole) (read_refused h.before rest line h.front error h.are why)

pub refused_at : (error : YamlErr) (reader : Reader) (line : Line) (left rest all : List Line) (h : Halfway reader left all) → left ≡ line ∷ rest → IsCause error (after_line line h.front) → IsLinesCause all error
refused_at (Tab n) reader line left rest all h e why = refused_by (Tab n) reader line left rest all h e why
refused_at (Indent n) reader line left rest all h e why = refused_by (Indent n) reader line left rest all h e why
refused_at (LeftOut n what) reader line left rest all h e why = refused_by (LeftOut n what) reader line left rest all h e why
refused_at (Repeated n) reader line left rest all h e why = refused_by (Repeated n) reader line left rest all h e why
refused_at (Scalar n) reader line left rest all h e why = refused_by (Scalar n) reader line left rest all h e why
refused_at (NotUtf8 n) reader line left rest all h e why = refused_by (NotUtf8 n) reader line left rest all h e why
refused_at NoMemory reader line left rest all h e why = tt

-- all that is open is closed
frames_closed : (f : Frame) (outer : List Frame) (what : What) (inner : Forest) → entries_with (f ∷ outer) what inner ≡ entries 0 (closed (f ∷ outer) what inner)
unfolding entries_with closed entries_open
frames_closed f [] what inner = sym (row_added 0 f.before f.line f.name what inner)
frames_closed f (g ∷ rest) what inner = sym (closed_with f (g ∷ rest) what inner (λ e. cc)) ∙ frames_closed g rest (rows f.holder f.column) (with_row f what inner)

front_closed : (frames : List Frame) (what : What) → (frames ≡ [] → what ≡ absent) → entries_open frames what ≡ entries 0 (closed frames what empty)
unfolding closed entries_open entries
front_closed [] what n = refl
front_closed (f ∷ outer) what n = sym (with_none (f ∷ outer) what) ∙ frames_closed f outer what empty

pub in_the_end : (reader : Reader) (left all : List Line) → left ≡ [] → Halfway reader left all → Holds reader.nodes.items all
in_the_end reader left all e h =
    let whole : h.before ≡ all = sym (append-nil h.before) ∙ ap (λ l. h.before ++ l) (sym e) ∙ h.whole in
    record {
      documents = closed h.front.frames h.front.tip empty;
      says = subst (λ (l : List Line). Says l (closed h.front.frames h.front.tip empty)) whole (read_says h.before h.front h.are);
      shown = h.stands.nodes ∙ front_closed h.front.frames h.front.tip (λ z. no_tip h.front.frames h.front.tip z h.are.is_front.tip);
    }
  where
    no_tip : (frames : List Frame) (tip : What) → frames ≡ [] → IsTip frames tip → tip ≡ absent
    no_tip [] tip z t = t
    no_tip (f ∷ outer) tip z t = cc

pub left_some : (o : Option LineHeld) (line : LineHeld) (left rest : List Line) → o ≡ Some line → MatchOption o (left ≡ []) (λ l. left ≡ line_shown l ∷ rest) → left ≡ line_shown line ∷ rest
left_some o line left rest e m = subst (λ (x : Option LineHeld). MatchOption x (left ≡ []) (λ l. left ≡ line_shown l ∷ rest)) e m

pub left_none : (o : Option LineHeld) (left rest : List Line) → o ≡ None → MatchOption o (left ≡ []) (λ l. left ≡ line_shown l ∷ rest) → left ≡ []
left_none o left rest e m = subst (λ (x : Option LineHeld). MatchOption x (left ≡ []) (λ l. left ≡ line_shown l ∷ rest)) e m
