-- A front that takes a mark is the front of a layout again.
use Rattle.std.proofs.Common.{◌≡◌, ◌≢◌, ℕ, suc, ◌<◌, Bool, true, false, ◌&&◌, ◌||◌, ◌==◌, List, [], ◌∷◌, ◌++◌, length, refl, sym, ap, subst, ◌∙◌, append_assoc, arith, Option, Some, None, Ok, Err}
use Rattle.std.specs.Prelude.{nat_lt, bytes_eq, if◌then◌else◌}
use Rattle.std.proofs.lemmas.Bool.Decides.{Decides-eqb, Decides-ltb}
use Rattle.std.proofs.lemmas.Slice.Eq.{bytes_eq-Decides}
use Rattle.yaml_lines.specs.Leaf.{Leaf}
use Rattle.yaml_subset.specs.declared.open.Holder.{Holder}
use Rattle.yaml_subset.specs.declared.open.Holder.TheVariants as holders
use Rattle.yaml_subset.specs.Tree.{What, absent, leaf, rows, Forest, empty, grows, one, append}
use Rattle.yaml_subset.specs.Layout.{Mark, lead, inside, value, marks, max_levels, nests, Lacks, IsWithin, Fits}
use Rattle.yaml_subset.specs.Front.{Frame, Front, IsNewIn, IsPlaced, AreOpen, IsTip, IsFront, marks_then, row_lead}
use Rattle.yaml_subset.specs.Refusal.{is_holder, is_absent, with_row, turned, turned_or, may_begin, may_have, is_deep, has_column, too_deep, misplaced_in, with_lead, with_value, name_is_taken, is_repeated}
use Rattle.yaml_subset.proofs.Rows.{marks_append, marks_one, RowFits, fits_snoc}

pub then_append : (frames : List Frame) (a b : List Mark) → marks_then frames (a ++ b) ≡ marks_then frames a ++ b
unfolding marks_then
then_append [] a b = refl
then_append (f ∷ outer) a b =
    ap (marks_then outer) (sym (append_assoc (marks f.holder f.column f.before) (row_lead f ∷ a) b))
    ∙ then_append outer (marks f.holder f.column f.before ++ (row_lead f ∷ a)) b

pub row_marks : (h : Holder) (c : ℕ) (before : Forest) (line : ℕ) (name : List ℕ) (what : What) (inner : Forest) (ms : List Mark) → marks h c (append before (one line name what inner)) ++ ms ≡ marks h c before ++ (lead h c line name ∷ (inside what inner ++ ms))
row_marks h c before line name what inner ms =
    ap (λ l. l ++ ms) (marks_append h c before (one line name what inner) ∙ ap (λ l. marks h c before ++ l) (marks_one h c line name what inner))
    ∙ append_assoc (marks h c before) (lead h c line name ∷ inside what inner) ms

abbrev pub IsRowIn : List Frame → What → Forest → Type 0
IsRowIn [] what inner = Unit {0}
IsRowIn (f ∷ outer) what inner = RowFits (length outer) f.holder f.column what inner

pub record Turns (h : Holder) (c line : ℕ) (name : List ℕ) (frames : List Frame) (what : What) (inner : Forest) (next : List Frame) : Type 0 where
  pub top : Frame
  pub outer : List Frame
  pub are : next ≡ top ∷ outer
  pub holder : top.holder ≡ h
  pub column : top.column ≡ c
  pub name_is : top.name ≡ name
  pub fits : Fits (length outer) top.holder top.column top.before
  pub placed : IsPlaced top outer
  pub open_rows : AreOpen outer
  pub marks_are : (ms : List Mark) → marks_then next ms ≡ marks_then frames (inside what inner ++ (lead h c line name ∷ ms))

pub same_holder : (h g : Holder) → is_holder h g ≡ true → h ≡ g
same_holder holders.File holders.File e = refl
same_holder holders.Mapping holders.Mapping e = refl
same_holder holders.Sequence holders.Sequence e = refl
same_holder holders.File holders.Mapping e = cc
same_holder holders.File holders.Sequence e = cc
same_holder holders.Mapping holders.File e = cc
same_holder holders.Mapping holders.Sequence e = cc
same_holder holders.Sequence holders.File e = cc
same_holder holders.Sequence holders.Mapping e = cc

both : (a b : Bool) → (a && b) ≡ true → (a ≡ true) × (b ≡ true)
both true b e = (refl, e)
both false b e = cc

not_empty : (before : Forest) (line : ℕ) (name : List ℕ) (what : What) (inner : Forest) → append before (one line name what inner) ≢ empty
unfolding append
not_empty empty line name what inner e = cc
not_empty (grows at other w i later) line name what inner e = cc

pub closed_row : (f : Frame) (outer : List Frame) (what : What) (inner : Forest) → AreOpen (f ∷ outer) → RowFits (length outer) f.holder f.column what inner → IsRowIn outer (rows f.holder f.column) (with_row f what inner)
unfolding AreOpen
closed_row f [] what inner are row = tt
closed_row f (g ∷ outer) what inner are row = record {
  held = (not_empty f.before f.line f.name what inner, are.2.0, are.2.1);
  within = λ other place e. moved f.holder f.column other place e (fits_snoc (suc (length outer)) f.holder f.column f.before f.line f.name what inner are.0 are.1 row);
}
  where
    holder_in : What → Holder
    holder_in absent = holders.File
    holder_in (leaf at place v) = holders.File
    holder_in (rows h k) = h

    column_in : What → ℕ
    column_in absent = 0
    column_in (leaf at place v) = 0
    column_in (rows h k) = k

    moved : (h : Holder) (c : ℕ) (other : Holder) (place : ℕ) → rows h c ≡ rows other place → Fits (suc (length outer)) h c (with_row f what inner) → Fits (suc (length outer)) other place (with_row f what inner)
    moved h c other place e fits = subst (λ (w : What). Fits (suc (length outer)) (holder_in w) (column_in w) (with_row f what inner)) e fits

outer_open : (f : Frame) (outer : List Frame) → AreOpen (f ∷ outer) → AreOpen outer
unfolding AreOpen
outer_open f outer are = are.3

here : (f : Frame) (outer : List Frame) (h : Holder) (c line : ℕ) (name : List ℕ) (what : What) (inner : Forest) (next : List Frame) → AreOpen (f ∷ outer) → RowFits (length outer) f.holder f.column what inner → (is_holder f.holder h ≡ true) × ((f.column == c) ≡ true) → Some (record { holder = f.holder; column = f.column; before = with_row f what inner; line = line; name = name } ∷ outer) ≡ Some next → Turns h c line name (f ∷ outer) what inner next
unfolding AreOpen marks_then
here f outer h c line name what inner next are row m e =
    let top : Frame = record { holder = f.holder; column = f.column; before = with_row f what inner; line = line; name = name } in
    let is : next ≡ top ∷ outer = cc in
    let same : f.holder ≡ h = same_holder f.holder h m.0 in
    let at : f.column ≡ c = (Decides-eqb f.column c).0 m.1 in
    record {
      top = top;
      outer = outer;
      are = is;
      holder = same;
      column = at;
      name_is = refl;
      fits = fits_snoc (length outer) f.holder f.column f.before f.line f.name what inner are.0 are.1 row;
      placed = placed_as f outer are.2;
      open_rows = are.3;
      marks_are = λ ms. ap (λ n. marks_then n ms) is
          ∙ ap (marks_then outer) (row_marks f.holder f.column f.before f.line f.name what inner (row_lead top ∷ ms)
          ∙ ap (λ m. marks f.holder f.column f.before ++ (row_lead f ∷ (inside what inner ++ (m ∷ ms)))) (ap (λ x. lead x f.column line name) same ∙ ap (λ x. lead h x line name) at));
    }
  where
    placed_as : (f : Frame) (outer : List Frame) → IsPlaced f outer → IsPlaced (record { holder = f.holder; column = f.column; before = with_row f what inner; line = line; name = name }) outer
    placed_as f [] p = p
    placed_as f (g ∷ outer) p = p

around : (f : Frame) (outer : List Frame) (h : Holder) (c line : ℕ) (name : List ℕ) (what : What) (inner : Forest) (next : List Frame) → Turns h c line name outer (rows f.holder f.column) (with_row f what inner) next → Turns h c line name (f ∷ outer) what inner next
unfolding marks_then
around f outer h c line name what inner next t = record {
  top = t.top;
  outer = t.outer;
  are = t.are;
  holder = t.holder;
  column = t.column;
  name_is = t.name_is;
  fits = t.fits;
  placed = t.placed;
  open_rows = t.open_rows;
  marks_are = λ ms. t.marks_are ms ∙ ap (marks_then outer) (row_marks f.holder f.column f.before f.line f.name what inner (lead h c line name ∷ ms));
}

pub turned_sound : (frames : List Frame) (h : Holder) (c line : ℕ) (name : List ℕ) (what : What) (inner : Forest) (next : List Frame) → AreOpen frames → IsRowIn frames what inner → turned h c line name frames what inner ≡ Some next → Turns h c line name frames what inner next
unfolding turned
turned_sound [] h c line name what inner next are row e = absurd (none_some e)
  where
    none_some : None ≡ Some next → ⊥
    none_some e = cc
turned_sound (f ∷ outer) h c line name what inner next are row e =
    by_match (λ k. turned_sound outer h c line name (rows f.holder f.column) (with_row f what inner) next (outer_open f outer are) (closed_row f outer what inner are row) k) (is_holder f.holder h && f.column == c) (nat_lt f.column c) refl refl e
  where
    none_some : None ≡ Some next → ⊥
    none_some e = cc

    by_match : (turned h c line name outer (rows f.holder f.column) (with_row f what inner) ≡ Some next → Turns h c line name outer (rows f.holder f.column) (with_row f what inner) next) → (b d : Bool) → (is_holder f.holder h && f.column == c) ≡ b → nat_lt f.column c ≡ d → (if b then Some (record { holder = f.holder; column = f.column; before = with_row f what inner; line = line; name = name } ∷ outer) else if d then None else turned h c line name outer (rows f.holder f.column) (with_row f what inner)) ≡ Some next → Turns h c line name (f ∷ outer) what inner next
    by_match again true d m past e = here f outer h c line name what inner next are row (both (is_holder f.holder h) (f.column == c) m) e
    by_match again false true m past e = absurd (none_some e)
    by_match again false false m past e = around f outer h c line name what inner next (again e)

pub tip_row : (frames : List Frame) (tip : What) → IsTip frames tip → IsRowIn frames tip empty
tip_row [] tip is = tt
tip_row (f ∷ outer) absent is = record { held = refl; within = λ other place e. cc }
tip_row (f ∷ outer) (leaf at place v) is = record { held = is; within = λ other place e. cc }
tip_row (f ∷ outer) (rows h c) is = absurd is

-- a name that no earlier member has, or none
free : (h : Holder) (name : List ℕ) (before : Forest) → (h ≢ holders.Mapping → name ≡ []) → (is_holder h holders.Mapping && name_is_taken before name) ≡ false → IsNewIn h name before
unfolding Lacks
free holders.File name before other e = other (λ d. cc)
free holders.Mapping name before other e = lacks before e
  where
    one_false : (a b : Bool) → (a || b) ≡ false → (a ≡ false) × (b ≡ false)
    one_false true b e = cc
    one_false false b e = (refl, e)

    differs : (other : List ℕ) → bytes_eq name other ≡ false → name ≢ other
    differs other f e = let t = (bytes_eq-Decides name other).1 e in cc

    lacks : (before : Forest) → name_is_taken before name ≡ false → Lacks name before
    lacks empty e = tt
    lacks (grows line other what inner later) e = let p = one_false (bytes_eq name other) (name_is_taken later name) e in (differs other p.0, lacks later p.1)
free holders.Sequence name before other e = other (λ d. cc)

-- a file's rows begin in column 0 alone
pub record Sayable (h : Holder) (c : ℕ) (name : List ℕ) : Type 0 where
  pub nameless : h ≢ holders.Mapping → name ≡ []
  pub at_start : h ≡ holders.File → c ≡ 0

placed_new : (h : Holder) (c line : ℕ) (name : List ℕ) (frames : List Frame) → Sayable h c name → may_begin frames h c ≡ true → is_deep frames ≡ false → IsPlaced (record { holder = h; column = c; before = empty; line = line; name = name }) frames
placed_new holders.File c line name [] s m d = (refl, s.at_start refl)
placed_new holders.Mapping c line name [] s m d = cc
placed_new holders.Sequence c line name [] s m d = cc
placed_new h c line name (g ∷ outer) s m d = (m, shallow d)
  where
    shallow : is_deep (g ∷ outer) ≡ false → length outer < max_levels
    shallow d = grind (arith, d)

absent_is : (tip : What) → is_absent tip ≡ true → tip ≡ absent
absent_is absent e = refl
absent_is (leaf at place v) e = cc
absent_is (rows h c) e = cc

opened_front : (ms : List Mark) (front : Front) (h : Holder) (c line : ℕ) (name : List ℕ) → IsFront ms front → Sayable h c name → (is_absent front.tip ≡ true) × (may_begin front.frames h c ≡ true) → is_deep front.frames ≡ false → IsFront (ms ++ (lead h c line name ∷ [])) (record { frames = record { holder = h; column = c; before = empty; line = line; name = name } ∷ front.frames; tip = absent })
unfolding AreOpen marks_then marks Fits Lacks
opened_front ms front h c line name is s begins shallow = record {
  are = ap (λ l. l ++ (lead h c line name ∷ [])) (is.are ∙ ap (λ w. marks_then front.frames (inside w empty)) (absent_is front.tip begins.0)) ∙ sym (then_append front.frames [] (lead h c line name ∷ []));
  open_rows = (tt, alone h s.nameless, placed_new h c line name front.frames s begins.1 shallow, is.open_rows);
  tip = tt;
}
  where
    alone : (h : Holder) → (h ≢ holders.Mapping → name ≡ []) → IsNewIn h name empty
    alone holders.File n = n (λ d. cc)
    alone holders.Mapping n = tt
    alone holders.Sequence n = n (λ d. cc)

turned_front : (ms : List Mark) (front : Front) (h : Holder) (c line : ℕ) (name : List ℕ) (next : List Frame) → IsFront ms front → Sayable h c name → Turns h c line name front.frames front.tip empty next → is_repeated next ≡ false → IsFront (ms ++ (lead h c line name ∷ [])) (record { frames = next; tip = absent })
unfolding AreOpen
turned_front ms front h c line name next is s t new =
    subst (λ (n : List Frame). IsFront (ms ++ (lead h c line name ∷ [])) (record { frames = n; tip = absent })) (sym t.are) (record {
      are = ap (λ l. l ++ (lead h c line name ∷ [])) is.are ∙ sym (then_append front.frames (inside front.tip empty) (lead h c line name ∷ [])) ∙ sym (t.marks_are []) ∙ ap (λ n. marks_then n []) t.are;
      open_rows = (t.fits, free t.top.holder t.top.name t.top.before (λ other. t.name_is ∙ s.nameless (λ e. other (t.holder ∙ e))) (subst (λ (n : List Frame). is_repeated n ≡ false) t.are new), t.placed, t.open_rows);
      tip = tt;
    })

-- a lead that is placed
pub lead_sound : (ms : List Mark) (front : Front) (h : Holder) (c line : ℕ) (name : List ℕ) (next : Front) → IsFront ms front → Sayable h c name → with_lead h c line name front ≡ Ok next → is_repeated next.frames ≡ false → IsFront (ms ++ (lead h c line name ∷ [])) next
unfolding with_lead
lead_sound ms front h c line name next is s e new = by_begin (is_absent front.tip && may_begin front.frames h c) (is_deep front.frames) refl refl e
  where
    frame : Frame
    frame = record { holder = h; column = c; before = empty; line = line; name = name }

    by_turn : (o : Option (List Frame)) (has : Bool) → turned h c line name front.frames front.tip empty ≡ o → turned_or o has ≡ Ok next → IsFront (ms ++ (lead h c line name ∷ [])) next
    by_turn (Some frames) has t e =
        let is_next : record { frames = frames; tip = absent } ≡ next = cc in
        subst (IsFront (ms ++ (lead h c line name ∷ []))) is_next
        (turned_front ms front h c line name frames is s (turned_sound front.frames h c line name front.tip empty frames is.open_rows (tip_row front.frames front.tip is.tip) t) (subst (λ (n : Front). is_repeated n.frames ≡ false) (sym is_next) new))
    by_turn None true t e = cc
    by_turn None false t e = cc

    by_begin : (b d : Bool) → (is_absent front.tip && may_begin front.frames h c) ≡ b → is_deep front.frames ≡ d → (if b then (if d then Err too_deep else Ok (record { frames = record { holder = h; column = c; before = empty; line = line; name = name } ∷ front.frames; tip = absent })) else turned_or (turned h c line name front.frames front.tip empty) (has_column c front.frames)) ≡ Ok next → IsFront (ms ++ (lead h c line name ∷ [])) next
    by_begin true true b d e = cc
    by_begin true false b d e =
        let is_next : record { frames = record { holder = h; column = c; before = empty; line = line; name = name } ∷ front.frames; tip = absent } ≡ next = cc in
        subst (IsFront (ms ++ (lead h c line name ∷ []))) is_next (opened_front ms front h c line name is s (both (is_absent front.tip) (may_begin front.frames h c) b) d)
    by_begin false d b deep e = by_turn (turned h c line name front.frames front.tip empty) (has_column c front.frames) refl e

value_placed : (ms : List Mark) (front : Front) (c line : ℕ) (v : Leaf) → IsFront ms front → (is_absent front.tip ≡ true) × (may_have front.frames c ≡ true) → (nests v && is_deep front.frames) ≡ false → IsFront (ms ++ (record { line = line; column = c; says = value v } ∷ [])) (record { frames = front.frames; tip = leaf line c v })
value_placed ms front c line v is begins shallow = record {
  are = ap (λ l. l ++ (record { line = line; column = c; says = value v } ∷ [])) (is.are ∙ ap (λ w. marks_then front.frames (inside w empty)) (absent_is front.tip begins.0)) ∙ sym (then_append front.frames [] (record { line = line; column = c; says = value v } ∷ []));
  open_rows = is.open_rows;
  tip = held front.frames begins.1 shallow;
}
  where
    within : (b : Bool) (outer : List Frame) (f : Frame) → (b && is_deep (f ∷ outer)) ≡ false → IsWithin b (length outer)
    within true outer f d = λ e. grind (arith, d)
    within false outer f d = λ e. cc

    held : (frames : List Frame) → may_have frames c ≡ true → (nests v && is_deep frames) ≡ false → IsTip frames (leaf line c v)
    held [] m d = cc
    held (f ∷ outer) m d = (refl, (Decides-ltb f.column c).0 m, within (nests v) outer f d)

-- a value that is placed
pub value_sound : (ms : List Mark) (front : Front) (c line : ℕ) (v : Leaf) (next : Front) → IsFront ms front → with_value (nests v) c (leaf line c v) front ≡ Ok next → IsFront (ms ++ (record { line = line; column = c; says = value v } ∷ [])) next
unfolding with_value
value_sound ms front c line v next is e = by_begin (is_absent front.tip && may_have front.frames c) (nests v && is_deep front.frames) refl refl e
  where
    by_begin : (b d : Bool) → (is_absent front.tip && may_have front.frames c) ≡ b → (nests v && is_deep front.frames) ≡ d → (if b then (if d then Err too_deep else Ok (record { frames = front.frames; tip = leaf line c v })) else Err (misplaced_in (has_column c front.frames))) ≡ Ok next → IsFront (ms ++ (record { line = line; column = c; says = value v } ∷ [])) next
    by_begin true true b d e = cc
    by_begin true false b d e =
        let is_next : record { frames = front.frames; tip = leaf line c v } ≡ next = cc in
        subst (IsFront (ms ++ (record { line = line; column = c; says = value v } ∷ []))) is_next (value_placed ms front c line v is (both (is_absent front.tip) (may_have front.frames c) b) d)
    by_begin false d b deep e = cc
