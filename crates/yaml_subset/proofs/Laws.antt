-- What reading line by line comes to: the documents that the lines say, or the first refusal.
use Rattle.std.proofs.Common.{◌≡◌, ℕ, Bool, true, false, ◌||◌, List, [], ◌∷◌, ◌++◌, length, refl, sym, ap, subst, ◌∙◌, append_assoc, append-nil, Option, Some, None, Result, Ok, Err}
use Rattle.std.specs.Prelude.{if◌then◌else◌}
use Rattle.yaml_lines.specs.Leaf.{Leaf}
use Rattle.yaml_lines.specs.LineParts.{Line, Name, Value, name_in, value_in, first_of, Spelled, good, left_out, wrong}
use Rattle.yaml_subset.specs.declared.error.YamlErr.{YamlErr}
use Rattle.yaml_subset.specs.declared.error.YamlErr.TheVariants.{Tab, LeftOut, Repeated, Scalar}
use Rattle.yaml_subset.specs.declared.open.Holder.{Holder}
use Rattle.yaml_subset.specs.declared.open.Holder.TheVariants as holders
use Rattle.yaml_subset.specs.Tree.{What, rows, Forest, empty, one}
use Rattle.yaml_subset.specs.Layout.{Mark, inside, marks, Fits}
use Rattle.yaml_subset.specs.Front.{Frame, Front, AreOpen, IsTip, IsFront, marks_then}
use Rattle.yaml_subset.specs.Line.{line_marks, IsGood, IsGoodName, IsGoodValue, IsClean, marks_of, AreClean}
use Rattle.yaml_subset.specs.Refusal.{with_row, ◌>>=◌, with_start, with_parts, goes_on, byte_left_out, name_left_out, value_left_out, first_of_two, what_left_out, is_wrong, wrong_name_in, wrong_value_in, has_wrong, repeats, placed, unless_left_out, unless_goes_on, after_line}
use Rattle.yaml_subset.specs.Reading.{Says, IsRefused}
use Rattle.yaml_subset.proofs.Rows.{marks_append, marks_one, RowFits, fits_snoc}
use Rattle.yaml_subset.proofs.Machine.{run, run_append, closed}
use Rattle.yaml_subset.proofs.Whole.{nothing_yet, whole_read, front_run}
use Rattle.yaml_subset.proofs.Sound.{tip_row, closed_row}
use Rattle.yaml_subset.proofs.Lines.{run_sound, run_none, line_sayable, okay, line_run}

-- lines one after the other
unfoldable pub after_lines : Front → List Line → Result Front YamlErr
after_lines front [] = Ok front
after_lines front (line ∷ lines) = after_line line front >>= λ next. after_lines next lines

none_some : {T : Type 0} (x : T) → None ≡ Some x → ⊥
none_some x e = cc

okay_is : (r : Result Front YamlErr) (front : Front) → okay r ≡ Some front → r ≡ Ok front
okay_is (Ok other) front e = cc
okay_is (Err error) front e = absurd (none_some front e)

-- a line that is placed is clean
good_name_from : (n : Option Name) → name_left_out n ≡ None → wrong_name_in n ≡ false → IsGoodName n
good_name_from None o w = tt
good_name_from (Some n) o w = by_text n.text o w
  where
    by_text : (s : Spelled (List ℕ)) → byte_left_out s ≡ None → is_wrong s ≡ false → IsGood s
    by_text (good x) o w = tt
    by_text (left_out byte) o w = cc
    by_text (wrong counts) o w = cc

good_value_from : (v : Option Value) → value_left_out v ≡ None → wrong_value_in v ≡ false → IsGoodValue v
good_value_from None o w = tt
good_value_from (Some v) o w = by_leaf v.leaf o w
  where
    by_leaf : (s : Spelled Leaf) → byte_left_out s ≡ None → is_wrong s ≡ false → IsGood s
    by_leaf (good x) o w = tt
    by_leaf (left_out byte) o w = cc
    by_leaf (wrong counts) o w = cc

pub placed_clean : (line : Line) (front next : Front) → after_line line front ≡ Ok next → IsClean line
unfolding after_line
placed_clean line front next e = by_tab line.tab refl e
  where
    ends : YamlErr → Result Front YamlErr
    ends error = Err error

    one_false : (a b : Bool) → (a || b) ≡ false → (a ≡ false) × (b ≡ false)
    one_false true b e = cc
    one_false false b e = (refl, e)

    two_none : (a b : Option ℕ) → first_of_two a b ≡ None → (a ≡ None) × (b ≡ None)
    two_none None b e = (refl, e)
    two_none (Some byte) b e = cc

    by_right : line.tab ≡ false → what_left_out line ≡ None → (w r : Bool) (f : Front) → has_wrong line ≡ w → (if w then ends (Scalar line.number) else if r then ends (Repeated line.number) else Ok f) ≡ Ok next → IsClean line
    by_right t o true r f h e = cc
    by_right t o false true f h e = cc
    by_right t o false false f h e =
        let w = one_false (wrong_name_in (name_in line.parts)) (wrong_value_in (value_in line.parts)) h in
        let l = two_none (name_left_out (name_in line.parts)) (value_left_out (value_in line.parts)) o in
        record { no_tab = t; name = good_name_from (name_in line.parts) l.0 w.0; value = good_value_from (value_in line.parts) l.1 w.1 }

    by_placed : line.tab ≡ false → what_left_out line ≡ None → (r : Result Front YamlErr) → placed line r ≡ Ok next → IsClean line
    by_placed t o (Err error) e = cc
    by_placed t o (Ok f) e = by_right t o (has_wrong line) (repeats (name_in line.parts) f.frames) f refl e

    by_out : line.tab ≡ false → (o : Option ℕ) → what_left_out line ≡ o → (f : Front) → unless_left_out line o f ≡ Ok next → IsClean line
    by_out t (Some byte) o f e = cc
    by_out t None o f e = by_placed t o (with_parts line.number line.parts f) e

    by_going : line.tab ≡ false → (b : Bool) (f : Front) → (if b then ends (LeftOut line.number (first_of line.parts)) else unless_left_out line (what_left_out line) f) ≡ Ok next → IsClean line
    by_going t true f e = cc
    by_going t false f e = by_out t (what_left_out line) refl f e

    by_start : line.tab ≡ false → (r : Result Front YamlErr) → (r >>= λ first. unless_goes_on line first) ≡ Ok next → IsClean line
    by_start t (Err error) e = cc
    by_start t (Ok f) e = by_going t (goes_on line f) f e

    by_tab : (b : Bool) → line.tab ≡ b → (if b then ends (Tab line.number) else with_start line line.starts front >>= λ first. unless_goes_on line first) ≡ Ok next → IsClean line
    by_tab true t e = cc
    by_tab false t e = by_start t (with_start line line.starts front) e

-- and then its marks are the next ones of the front
pub line_sound : (ms : List Mark) (line : Line) (front next : Front) → IsFront ms front → after_line line front ≡ Ok next → IsFront (ms ++ line_marks line) next
line_sound ms line front next is e = run_sound (line_marks line) ms front next is (line_sayable line) (line_run line front (placed_clean line front next e) ∙ ap okay e)

nothing_front : IsFront [] nothing_yet
unfolding marks_then AreOpen
nothing_front = record { are = refl; open_rows = tt; tip = refl }

-- lines that are read to a front
pub record AreRead (lines : List Line) (front : Front) : Type 0 where
  pub clean : AreClean lines
  pub is_front : IsFront (marks_of lines) front

marks_snoc : (before : List Line) (line : Line) → marks_of (before ++ (line ∷ [])) ≡ marks_of before ++ line_marks line
unfolding marks_of
marks_snoc [] line = append-nil (line_marks line)
marks_snoc (other ∷ before) line = ap (λ ms. line_marks other ++ ms) (marks_snoc before line) ∙ sym (append_assoc (line_marks other) (marks_of before) (line_marks line))

clean_snoc : (before : List Line) (line : Line) → AreClean before → IsClean line → AreClean (before ++ (line ∷ []))
unfolding AreClean
clean_snoc [] line are is = (is, tt)
clean_snoc (other ∷ before) line are is = (are.0, clean_snoc before line are.1 is)

pub read_nothing : AreRead [] nothing_yet
unfolding AreClean marks_of
read_nothing = record { clean = tt; is_front = nothing_front }

pub read_on : (before : List Line) (line : Line) (front next : Front) → AreRead before front → after_line line front ≡ Ok next → AreRead (before ++ (line ∷ [])) next
read_on before line front next are e = record {
  clean = clean_snoc before line are.clean (placed_clean line front next e);
  is_front = subst (λ (ms : List Mark). IsFront ms next) (sym (marks_snoc before line)) (line_sound (marks_of before) line front next are.is_front e);
}

-- clean lines are read where their marks lead
pub lines_run : (lines : List Line) (front : Front) → AreClean lines → run (Some front) (marks_of lines) ≡ okay (after_lines front lines)
unfolding marks_of AreClean after_lines run
lines_run [] front clean = refl
lines_run (line ∷ lines) front clean =
    run_append (Some front) (line_marks line) (marks_of lines)
    ∙ ap (λ o. run o (marks_of lines)) (line_run line front clean.0)
    ∙ by_result (λ next. lines_run lines next clean.1) (after_line line front)
  where
    by_result : ((next : Front) → run (Some next) (marks_of lines) ≡ okay (after_lines next lines)) → (r : Result Front YamlErr) → run (okay r) (marks_of lines) ≡ okay (r >>= λ next. after_lines next lines)
    by_result again (Ok next) = again next
    by_result again (Err error) = run_none (marks_of lines)

-- all that is open is closed
pub record Closes (ms : List Mark) (documents : Forest) : Type 0 where
  pub are : ms ≡ marks holders.File 0 documents
  pub fits : Fits 0 holders.File 0 documents

rest_open : (f : Frame) (outer : List Frame) → AreOpen (f ∷ outer) → AreOpen outer
unfolding AreOpen
rest_open f outer are = are.3

last_closes : (f : Frame) (what : What) (inner : Forest) → AreOpen (f ∷ []) → RowFits 0 f.holder f.column what inner → Closes (marks_then (f ∷ []) (inside what inner)) (with_row f what inner)
unfolding AreOpen marks_then
last_closes f what inner are row =
    let file : f.holder ≡ holders.File = are.2.0 in
    let start : f.column ≡ 0 = are.2.1 in
    record {
      are = sym (marks_append f.holder f.column f.before (one f.line f.name what inner) ∙ ap (λ ms. marks f.holder f.column f.before ++ ms) (marks_one f.holder f.column f.line f.name what inner))
          ∙ ap (λ h. marks h f.column (with_row f what inner)) file ∙ ap (λ c. marks holders.File c (with_row f what inner)) start;
      fits = subst (λ (c : ℕ). Fits 0 holders.File c (with_row f what inner)) start (subst (λ (h : Holder). Fits 0 h f.column (with_row f what inner)) file (fits_snoc 0 f.holder f.column f.before f.line f.name what inner are.0 are.1 row));
    }

frames_close : (f : Frame) (outer : List Frame) (what : What) (inner : Forest) → AreOpen (f ∷ outer) → RowFits (length outer) f.holder f.column what inner → Closes (marks_then (f ∷ outer) (inside what inner)) (closed (f ∷ outer) what inner)
unfolding closed marks_then
frames_close f [] what inner are row = last_closes f what inner are row
frames_close f (g ∷ outer) what inner are row =
    let c = frames_close g outer (rows f.holder f.column) (with_row f what inner) (rest_open f (g ∷ outer) are) (closed_row f (g ∷ outer) what inner are row) in
    record {
      are = ap (marks_then (g ∷ outer)) (sym (marks_append f.holder f.column f.before (one f.line f.name what inner) ∙ ap (λ ms. marks f.holder f.column f.before ++ ms) (marks_one f.holder f.column f.line f.name what inner))) ∙ c.are;
      fits = c.fits;
    }

pub front_closes : (ms : List Mark) (front : Front) → IsFront ms front → Closes ms (closed front.frames front.tip empty)
unfolding closed marks_then marks Fits
front_closes ms front is = by_frames front.frames front.tip is.are is.open_rows is.tip
  where
    by_frames : (frames : List Frame) (tip : What) → ms ≡ marks_then frames (inside tip empty) → AreOpen frames → IsTip frames tip → Closes ms (closed frames tip empty)
    by_frames [] tip are open_rows t = record { are = are ∙ ap (λ w. inside w empty) t; fits = tt }
    by_frames (f ∷ outer) tip are open_rows t =
        let c = frames_close f outer tip empty open_rows (tip_row (f ∷ outer) tip t) in
        record { are = are ∙ c.are; fits = c.fits }

-- lines that are read say documents
pub read_says : (lines : List Line) (front : Front) → AreRead lines front → Says lines (closed front.frames front.tip empty)
read_says lines front are =
    let c = front_closes (marks_of lines) front are.is_front in
    record { clean = are.clean; marks_are = c.are; fits = c.fits }

-- lines that say documents are read, to a front that closes to those
pub record ReadTo (lines : List Line) (documents : Forest) : Type 0 where
  pub end : Front
  pub reads : after_lines nothing_yet lines ≡ Ok end
  pub closes : closed end.frames end.tip empty ≡ documents

pub says_read : (lines : List Line) (documents : Forest) → Says lines documents → ReadTo lines documents
says_read lines documents s =
    let r = whole_read documents s.fits in
    record {
      end = r.end;
      reads = okay_is (after_lines nothing_yet lines) r.end (sym (lines_run lines nothing_yet s.clean) ∙ ap (run (Some nothing_yet)) s.marks_are ∙ r.runs);
      closes = r.closes;
    }

one_end : (r : Result Front YamlErr) (a b : Front) → r ≡ Ok a → r ≡ Ok b → a ≡ b
one_end r a b e d = cc

-- lines say one list of documents at most
pub says_one : (lines : List Line) (documents others : Forest) → Says lines documents → Says lines others → documents ≡ others
says_one lines documents others s t =
    let a = says_read lines documents s in
    let b = says_read lines others t in
    sym a.closes ∙ ap (λ (f : Front). closed f.frames f.tip empty) (one_end (after_lines nothing_yet lines) a.end b.end a.reads b.reads) ∙ b.closes

pub lines_append : (before after : List Line) (front : Front) → after_lines front (before ++ after) ≡ (after_lines front before >>= λ next. after_lines next after)
unfolding after_lines
lines_append [] after front = refl
lines_append (line ∷ before) after front = by_result (λ next. lines_append before after next) (after_line line front)
  where
    by_result : ((next : Front) → after_lines next (before ++ after) ≡ (after_lines next before >>= λ last. after_lines last after)) → (r : Result Front YamlErr) → (r >>= λ next. after_lines next (before ++ after)) ≡ ((r >>= λ next. after_lines next before) >>= λ last. after_lines last after)
    by_result again (Ok next) = again next
    by_result again (Err error) = refl

-- a refusal is what reading line by line comes to
pub refused_read : (lines : List Line) (error : YamlErr) → IsRefused lines error → after_lines nothing_yet lines ≡ Err error
unfolding after_lines
refused_read lines error r =
    let before : after_lines nothing_yet r.before ≡ Ok r.front = okay_is (after_lines nothing_yet r.before) r.front (sym (lines_run r.before nothing_yet r.clean) ∙ front_run (marks_of r.before) r.front r.is_front) in
    ap (after_lines nothing_yet) r.lines_are
    ∙ lines_append r.before (r.line ∷ r.after) nothing_yet
    ∙ ap (λ x. x >>= λ next. after_lines next (r.line ∷ r.after)) before
    ∙ ap (λ x. x >>= λ next. after_lines next r.after) r.why

-- and what it comes to is a refusal
pub read_refused : (before after : List Line) (line : Line) (front : Front) (error : YamlErr) → AreRead before front → after_line line front ≡ Err error → IsRefused (before ++ (line ∷ after)) error
read_refused before after line front error are e = record {
  before = before;
  line = line;
  after = after;
  front = front;
  lines_are = refl;
  clean = are.clean;
  is_front = are.is_front;
  why = e;
}
