-- Reading all marks of a file, and those of the front of one.
use Rattle.std.proofs.Common.{◌≡◌, ℕ, ◌<◌, Bool, true, false, ◌&&◌, List, [], ◌∷◌, ◌++◌, length, refl, sym, ap, subst, ◌∙◌, append-nil, arith, Some}
use Rattle.std.specs.Prelude.{nat_lt}
use Rattle.yaml_subset.specs.declared.open.Holder.{Holder}
use Rattle.yaml_subset.specs.declared.open.Holder.TheVariants as holders
use Rattle.yaml_subset.specs.Tree.{What, absent, leaf, rows, Forest, empty, grows, append}
use Rattle.yaml_subset.specs.Layout.{Mark, lead, inside, marks, nests, IsWithin, Fits}
use Rattle.yaml_subset.specs.Front.{Frame, Front, IsNewIn, IsPlaced, AreOpen, IsTip, IsFront, marks_then, row_lead}
use Rattle.yaml_subset.specs.Refusal.{may_begin, is_deep}
use Rattle.yaml_subset.proofs.Rows.{marks_grows, fits_at}
use Rattle.yaml_subset.proofs.Machine.{run, led, kept, Reached, rows_reached, waits, closed, lead_begins, said_lead, not_taken, next_row, not_deep, value_begins, had}

start_empty : (level : ℕ) (h : Holder) (c : ℕ) (f : Forest) → Fits level h c f → Fits level h c (append empty f)
unfolding append
start_empty level h c f fits = fits

-- the first row of rows that begin
pub first_row : (h : Holder) (c line : ℕ) (name : List ℕ) (outer : List Frame) → may_begin outer h c ≡ true → is_deep outer ≡ false → IsNewIn h name empty → (others : List Mark) → run (Some (waits outer)) (lead h c line name ∷ others) ≡ run (Some (waits (record { holder = h; column = c; before = empty; line = line; name = name } ∷ outer))) others
unfolding run
first_row h c line name outer may deep new others =
    let next : List Frame = record { holder = h; column = c; before = empty; line = line; name = name } ∷ outer in
    ap (λ o. run o others) (said_lead line c h name empty (waits outer) new ∙ ap led (lead_begins h c line name (waits outer) may deep) ∙ ap (kept (waits next)) (not_taken h name empty new))

abbrev pub nothing_yet : Front
nothing_yet = record { frames = []; tip = absent }

-- reading the marks of documents leads to a front that closes to them
pub record Read (ms : List Mark) (documents : Forest) : Type 0 where
  pub end : Front
  pub runs : run (Some nothing_yet) ms ≡ Some end
  pub closes : closed end.frames end.tip empty ≡ documents

pub whole_read : (documents : Forest) → Fits 0 holders.File 0 documents → Read (marks holders.File 0 documents) documents
unfolding marks run closed append
whole_read empty fits = record { end = nothing_yet; runs = refl; closes = refl }
whole_read (grows line name what inner later) fits =
    let at = fits_at 0 holders.File 0 empty line name what inner later (start_empty 0 holders.File 0 (grows line name what inner later) fits) in
    let r : Reached [] holders.File 0 empty (grows line name what inner later) = rows_reached (grows line name what inner later) [] holders.File 0 empty (start_empty 0 holders.File 0 (grows line name what inner later) fits) in
    record {
      end = r.end;
      runs = ap (run (Some nothing_yet)) (marks_grows holders.File 0 line name what inner later)
          ∙ first_row holders.File 0 line name [] refl refl at.new (inside what inner ++ marks holders.File 0 later)
          ∙ ap (run (Some (waits (record { holder = holders.File; column = 0; before = empty; line = line; name = name } ∷ [])))) (sym (append-nil (inside what inner ++ marks holders.File 0 later)))
          ∙ r.runs [];
      closes = r.closes;
    }

begins_in : (f : Frame) (outer : List Frame) → IsPlaced f outer → may_begin outer f.holder f.column ≡ true
begins_in f [] p = subst (λ (h : Holder). may_begin [] h f.column ≡ true) (sym p.0) refl
begins_in f (g ∷ outer) p = p.0

shallow_in : (f : Frame) (outer : List Frame) → IsPlaced f outer → is_deep outer ≡ false
shallow_in f [] p = refl
shallow_in f (g ∷ outer) p = not_deep outer p.1

new_first : (h : Holder) (name : List ℕ) (f : Forest) → IsNewIn h name f → (f ≡ empty) → IsNewIn h name empty
new_first h name f new e = subst (IsNewIn h name) e new

frame_run : (f : Frame) (outer : List Frame) (before : Forest) → f.before ≡ before → Fits (length outer) f.holder f.column before → IsNewIn f.holder f.name before → IsPlaced f outer → (others : List Mark) → run (Some (waits outer)) (marks f.holder f.column before ++ (row_lead f ∷ others)) ≡ run (Some (waits (f ∷ outer))) others
unfolding marks append
frame_run f outer empty e fits new placed others =
    first_row f.holder f.column f.line f.name outer (begins_in f outer placed) (shallow_in f outer placed) new others
    ∙ ap (λ b. run (Some (waits (record { holder = f.holder; column = f.column; before = b; line = f.line; name = f.name } ∷ outer))) others) (sym e)
frame_run f outer (grows line name what inner later) e fits new placed others =
    let h = f.holder in let c = f.column in
    let all : Forest = grows line name what inner later in
    let at = fits_at (length outer) h c empty line name what inner later (start_empty (length outer) h c all fits) in
    let r : Reached outer h c empty all = rows_reached all outer h c empty (start_empty (length outer) h c all fits) in
    ap (λ ms. run (Some (waits outer)) (ms ++ (row_lead f ∷ others))) (marks_grows h c line name what inner later)
    ∙ first_row h c line name outer (begins_in f outer placed) (shallow_in f outer placed) at.new ((inside what inner ++ marks h c later) ++ (row_lead f ∷ others))
    ∙ r.runs (row_lead f ∷ others)
    ∙ next_row h c all outer f.line f.name r.end r.turns r.shut new others
    ∙ ap (λ b. run (Some (waits (record { holder = f.holder; column = f.column; before = b; line = f.line; name = f.name } ∷ outer))) others) (sym e)

-- the marks of open rows lead to those rows
pub frames_run : (frames : List Frame) → AreOpen frames → (others : List Mark) → run (Some nothing_yet) (marks_then frames others) ≡ run (Some (waits frames)) others
unfolding marks_then AreOpen
frames_run [] are others = refl
frames_run (f ∷ outer) are others =
    frames_run outer are.3 (marks f.holder f.column f.before ++ (row_lead f ∷ others))
    ∙ frame_run f outer f.before refl are.0 are.1 are.2 others

tip_run : (frames : List Frame) (tip : What) → IsTip frames tip → run (Some (waits frames)) (inside tip empty) ≡ Some (record { frames = frames; tip = tip })
unfolding run
tip_run [] tip is = subst (λ (w : What). run (Some (waits [])) (inside w empty) ≡ Some (record { frames = []; tip = w })) (sym is) refl
tip_run (f ∷ outer) absent is = refl
tip_run (f ∷ outer) (leaf at place v) is = ap (λ o. run (had o) []) (value_begins (nests v) place (leaf at place v) (waits (f ∷ outer)) (deeper is.1) (fine (nests v) is.2))
  where
    deeper : f.column < place → nat_lt f.column place ≡ true
    deeper l = grind (arith, l)

    fine : (b : Bool) → IsWithin b (length outer) → (b && is_deep (f ∷ outer)) ≡ false
    fine true w = not_deep outer (w refl)
    fine false w = refl
tip_run (f ∷ outer) (rows h c) is = absurd is

-- the front of a layout is read to what is open there: so there is one such front at most
pub front_run : (ms : List Mark) (front : Front) → IsFront ms front → run (Some nothing_yet) ms ≡ Some front
front_run ms front is = ap (run (Some nothing_yet)) is.are ∙ frames_run front.frames is.open_rows (inside front.tip empty) ∙ tip_run front.frames front.tip is.tip
