-- Reading marks from left to right.
use Rattle.std.proofs.Common.{◌≡◌, ◌⊎◌, inl, inr, ℕ, suc, ◌<◌, Bool, true, false, ◌&&◌, ◌==◌, List, [], ◌∷◌, ◌++◌, length, refl, sym, ap, subst, ◌∙◌, append_assoc, append-nil, arith, Option, Some, None, Result, Ok, Err}
use Rattle.std.specs.Prelude.{nat_lt, if◌then◌else◌, bytes_eq}
use Rattle.std.proofs.lemmas.Bool.{false_from_ne_true}
use Rattle.std.proofs.lemmas.Bool.Decides.{Decides-eqb}
use Rattle.std.proofs.lemmas.Slice.Eq.{bytes_eq-Decides}
use Rattle.yaml_lines.specs.Leaf.{Leaf}
use Rattle.yaml_subset.specs.declared.open.Holder.{Holder}
use Rattle.yaml_subset.specs.declared.open.Holder.TheVariants as holders
use Rattle.yaml_subset.specs.Tree.{What, absent, leaf, rows, Forest, empty, grows, one, append}
use Rattle.yaml_subset.specs.Layout.{Says, start, item, named, value, Mark, lead, inside, says_of, marks, may_hold, max_levels, Lacks, IsWithin, nests, Fits}
use Rattle.yaml_subset.specs.Front.{Frame, Front, IsNewIn}
use Rattle.yaml_subset.specs.Refusal.{is_holder, is_absent, with_row, turned, may_begin, may_have, is_deep, Misplaced, with_lead, with_value, name_is_taken, is_repeated}
use Rattle.yaml_subset.proofs.Rows.{marks_grows, append_append, RowFits, fits_at}

abbrev pub kept : Front → Bool → Option Front
kept front true = None
kept front false = Some front

abbrev pub led : Result Front Misplaced → Option Front
led (Err why) = None
led (Ok front) = kept front (is_repeated front.frames)

abbrev pub had : Result Front Misplaced → Option Front
had (Err why) = None
had (Ok front) = Some front

abbrev pub said : ℕ → ℕ → Says → Front → Option Front
said line column start front = led (with_lead holders.File column line [] front)
said line column item front = led (with_lead holders.Sequence column line [] front)
said line column (named name) front = led (with_lead holders.Mapping column line name front)
said line column (value v) front = had (with_value (nests v) column (leaf line column v) front)

unfoldable pub run : Option Front → List Mark → Option Front
run None ms = None
run (Some front) [] = Some front
run (Some front) (m ∷ ms) = run (said m.line m.column m.says front) ms

pub run_append : (o : Option Front) (ms ns : List Mark) → run o (ms ++ ns) ≡ run (run o ms) ns
unfolding run
run_append None [] ns = refl
run_append None (m ∷ ms) ns = refl
run_append (Some front) [] ns = refl
run_append (Some front) (m ∷ ms) ns = run_append (said m.line m.column m.says front) ms ns

-- the rows of one holder stand within those of another, or are the same
pub record Under (h : Holder) (c : ℕ) (other : Holder) (place : ℕ) : Type 0 where
  pub is : ((h ≡ other) × (c ≡ place)) ⊎ (may_hold h c other place ≡ true)

pub not_back : (h : Holder) (c : ℕ) (other : Holder) (place : ℕ) → Under h c other place → may_hold other place h c ≡ false
not_back h c other place u = elim u.is [ inl e ↦ same h c other place e.0 e.1 | inr m ↦ above h c other place m ]
  where
    self : (h : Holder) (c : ℕ) → may_hold h c h c ≡ false
    self holders.File c = refl
    self holders.Mapping c = grind arith
    self holders.Sequence c = grind arith

    same : (h : Holder) (c : ℕ) (other : Holder) (place : ℕ) → h ≡ other → c ≡ place → may_hold other place h c ≡ false
    same h c other place e d = ap (λ k. may_hold k place h c) (sym e) ∙ ap (λ k. may_hold h k h c) (sym d) ∙ self h c

    above : (h : Holder) (c : ℕ) (other : Holder) (place : ℕ) → may_hold h c other place ≡ true → may_hold other place h c ≡ false
    above holders.File c holders.File place m = cc
    above holders.File c holders.Mapping place m = refl
    above holders.File c holders.Sequence place m = refl
    above holders.Mapping c holders.File place m = cc
    above holders.Mapping c holders.Mapping place m = grind (arith, m)
    above holders.Mapping c holders.Sequence place m = grind (arith, m)
    above holders.Sequence c holders.File place m = cc
    above holders.Sequence c holders.Mapping place m = grind (arith, m)
    above holders.Sequence c holders.Sequence place m = grind (arith, m)

false_is_true : false ≡ true → ⊥
false_is_true e = cc

-- rows that are held by rows are no other rows in a column further left
pub held_past : (h : Holder) (c : ℕ) (g : Holder) (k : ℕ) → may_hold h c g k ≡ true → ((is_holder g h && k == c) ≡ false) × (nat_lt k c ≡ false)
held_past holders.File c holders.File k m = absurd (false_is_true m)
held_past holders.File c holders.Mapping k m = (grind (arith, m), grind (arith, m))
held_past holders.File c holders.Sequence k m = (grind (arith, m), grind (arith, m))
held_past holders.Mapping c holders.File k m = absurd (false_is_true m)
held_past holders.Mapping c holders.Mapping k m = (grind (arith, m), grind (arith, m))
held_past holders.Mapping c holders.Sequence k m = (grind (arith, m), grind (arith, m))
held_past holders.Sequence c holders.File k m = absurd (false_is_true m)
held_past holders.Sequence c holders.Mapping k m = (grind (arith, m), grind (arith, m))
held_past holders.Sequence c holders.Sequence k m = (grind (arith, m), grind (arith, m))

pub held_trans : (h : Holder) (c : ℕ) (g : Holder) (k : ℕ) (a : Holder) (b : ℕ) → may_hold h c g k ≡ true → may_hold g k a b ≡ true → may_hold h c a b ≡ true
held_trans holders.File c holders.File k holders.File b m n = absurd (false_is_true m)
held_trans holders.File c holders.File k holders.Mapping b m n = absurd (false_is_true m)
held_trans holders.File c holders.File k holders.Sequence b m n = absurd (false_is_true m)
held_trans holders.File c holders.Mapping k holders.File b m n = absurd (false_is_true n)
held_trans holders.File c holders.Mapping k holders.Mapping b m n = grind (arith, m, n)
held_trans holders.File c holders.Mapping k holders.Sequence b m n = grind (arith, m, n)
held_trans holders.File c holders.Sequence k holders.File b m n = absurd (false_is_true n)
held_trans holders.File c holders.Sequence k holders.Mapping b m n = grind (arith, m, n)
held_trans holders.File c holders.Sequence k holders.Sequence b m n = grind (arith, m, n)
held_trans holders.Mapping c holders.File k holders.File b m n = absurd (false_is_true m)
held_trans holders.Mapping c holders.File k holders.Mapping b m n = absurd (false_is_true m)
held_trans holders.Mapping c holders.File k holders.Sequence b m n = absurd (false_is_true m)
held_trans holders.Mapping c holders.Mapping k holders.File b m n = absurd (false_is_true n)
held_trans holders.Mapping c holders.Mapping k holders.Mapping b m n = grind (arith, m, n)
held_trans holders.Mapping c holders.Mapping k holders.Sequence b m n = grind (arith, m, n)
held_trans holders.Mapping c holders.Sequence k holders.File b m n = absurd (false_is_true n)
held_trans holders.Mapping c holders.Sequence k holders.Mapping b m n = grind (arith, m, n)
held_trans holders.Mapping c holders.Sequence k holders.Sequence b m n = grind (arith, m, n)
held_trans holders.Sequence c holders.File k holders.File b m n = absurd (false_is_true m)
held_trans holders.Sequence c holders.File k holders.Mapping b m n = absurd (false_is_true m)
held_trans holders.Sequence c holders.File k holders.Sequence b m n = absurd (false_is_true m)
held_trans holders.Sequence c holders.Mapping k holders.File b m n = absurd (false_is_true n)
held_trans holders.Sequence c holders.Mapping k holders.Mapping b m n = grind (arith, m, n)
held_trans holders.Sequence c holders.Mapping k holders.Sequence b m n = grind (arith, m, n)
held_trans holders.Sequence c holders.Sequence k holders.File b m n = absurd (false_is_true n)
held_trans holders.Sequence c holders.Sequence k holders.Mapping b m n = grind (arith, m, n)
held_trans holders.Sequence c holders.Sequence k holders.Sequence b m n = grind (arith, m, n)

pub under_held : (h : Holder) (c : ℕ) (g : Holder) (k : ℕ) (a : Holder) (b : ℕ) → Under h c g k → may_hold g k a b ≡ true → may_hold h c a b ≡ true
under_held h c g k a b u m = elim u.is [ inl e ↦ subst (λ (z : ℕ). may_hold h z a b ≡ true) (sym e.1) (subst (λ (y : Holder). may_hold y k a b ≡ true) (sym e.0) m) | inr n ↦ held_trans h c g k a b n m ]

pub under_self : (h : Holder) (c : ℕ) → Under h c h c
under_self h c = record { is = inl (refl, refl) }

-- what is left when all that is open is closed
unfoldable pub closed : List Frame → What → Forest → Forest
closed [] what inner = inner
closed (f ∷ outer) what inner = closed outer (rows f.holder f.column) (with_row f what inner)

-- rows that have no row open, and one more of them or of those around them
abbrev pub turned_past : Holder → ℕ → ℕ → List ℕ → Holder → ℕ → Forest → List Frame → Option (List Frame)
turned_past holder column line name h c all outer =
    if is_holder h holder && c == column then Some (record { holder = h; column = c; before = all; line = line; name = name } ∷ outer)
    else if nat_lt c column then None
    else turned holder column line name outer (rows h c) all

pub turned_frame : (holder : Holder) (column line : ℕ) (name : List ℕ) (f : Frame) (outer : List Frame) (what : What) (inner : Forest) → turned holder column line name (f ∷ outer) what inner ≡ turned_past holder column line name f.holder f.column (with_row f what inner) outer
unfolding turned
turned_frame holder column line name f outer what inner = refl

pub past_held : (holder : Holder) (column line : ℕ) (name : List ℕ) (h : Holder) (c : ℕ) (all : Forest) (outer : List Frame) (g : Holder) (k : ℕ) → Under holder column g k → may_hold g k h c ≡ true → turned_past holder column line name h c all outer ≡ turned holder column line name outer (rows h c) all
past_held holder column line name h c all outer g k u m =
    let p = held_past holder column h c (under_held holder column g k h c u m) in
    rw (p.0, p.1)

-- where a reader stands behind the rows `all` of a holder in `outer`, the last of which is open
pub record Reaches (from : Front) (ms : List Mark) (outer : List Frame) (h : Holder) (c : ℕ) (all : Forest) : Type 0 where
  pub end : Front
  pub runs : (others : List Mark) → run (Some from) (ms ++ others) ≡ run (Some end) others
  pub turns : (holder : Holder) (column line : ℕ) (name : List ℕ) → Under holder column h c → turned holder column line name end.frames end.tip empty ≡ turned_past holder column line name h c all outer
  pub shut : (holder : Holder) (column : ℕ) → Under holder column h c → (is_absent end.tip && may_begin end.frames holder column) ≡ false
  pub closes : closed end.frames end.tip empty ≡ closed outer (rows h c) all

lacks_taken : (name : List ℕ) (f : Forest) → Lacks name f → name_is_taken f name ≡ false
unfolding Lacks
lacks_taken name empty l = refl
lacks_taken name (grows line other what inner later) l =
    let e : bytes_eq name other ≡ false = false_from_ne_true (bytes_eq name other) (λ t. l.0 ((bytes_eq-Decides name other).0 t)) in
    rw (e, lacks_taken name later l.1)

pub not_taken : (h : Holder) (name : List ℕ) (f : Forest) → IsNewIn h name f → (is_holder h holders.Mapping && name_is_taken f name) ≡ false
not_taken holders.File name f new = refl
not_taken holders.Mapping name f new = lacks_taken name f new
not_taken holders.Sequence name f new = refl

pub lead_turns : (h : Holder) (c line : ℕ) (name : List ℕ) (front : Front) (frames : List Frame) → (is_absent front.tip && may_begin front.frames h c) ≡ false → turned h c line name front.frames front.tip empty ≡ Some frames → with_lead h c line name front ≡ Ok (record { frames = frames; tip = absent })
unfolding with_lead
lead_turns h c line name front frames s t = rw (s, t)

pub lead_begins : (h : Holder) (c line : ℕ) (name : List ℕ) (front : Front) → (is_absent front.tip && may_begin front.frames h c) ≡ true → is_deep front.frames ≡ false → with_lead h c line name front ≡ Ok (record { frames = record { holder = h; column = c; before = empty; line = line; name = name } ∷ front.frames; tip = absent })
unfolding with_lead
lead_begins h c line name front s t = rw (s, t)

pub value_begins : (counts : Bool) (c : ℕ) (what : What) (front : Front) → (is_absent front.tip && may_have front.frames c) ≡ true → (counts && is_deep front.frames) ≡ false → with_value counts c what front ≡ Ok (record { frames = front.frames; tip = what })
unfolding with_value
value_begins counts c what front s t = rw (s, t)

pub said_lead : (line c : ℕ) (h : Holder) (name : List ℕ) (before : Forest) (front : Front) → IsNewIn h name before → said line c (says_of h name) front ≡ led (with_lead h c line name front)
said_lead line c holders.File name before front new = ap (λ n. led (with_lead holders.File c line n front)) (sym new)
said_lead line c holders.Mapping name before front new = refl
said_lead line c holders.Sequence name before front new = ap (λ n. led (with_lead holders.Sequence c line n front)) (sym new)

holder_self : (h : Holder) → is_holder h h ≡ true
holder_self holders.File = refl
holder_self holders.Mapping = refl
holder_self holders.Sequence = refl

column_self : (c : ℕ) → (c == c) ≡ true
column_self c = (Decides-eqb c c).1 refl

pub past_self : (h : Holder) (c line : ℕ) (name : List ℕ) (all : Forest) (outer : List Frame) → turned_past h c line name h c all outer ≡ Some (record { holder = h; column = c; before = all; line = line; name = name } ∷ outer)
past_self h c line name all outer = rw (holder_self h, column_self c)

pub not_deep : (outer : List Frame) → length outer < max_levels → nat_lt max_levels (suc (length outer)) ≡ false
not_deep outer l = grind (arith, l)

-- the rows that are open, with no value in the last one
abbrev pub waits : List Frame → Front
waits frames = record { frames = frames; tip = absent }

abbrev pub Reached : List Frame → Holder → ℕ → Forest → Forest → Type 0
Reached outer h c before empty = Unit {0}
Reached outer h c before (grows line name what inner later) =
    Reaches (waits (record { holder = h; column = c; before = before; line = line; name = name } ∷ outer)) (inside what inner ++ marks h c later) outer h c (append before (grows line name what inner later))

absent_reached : (f : Frame) (outer : List Frame) → Reaches (waits (f ∷ outer)) [] outer f.holder f.column (with_row f absent empty)
unfolding closed
absent_reached f outer = record {
  end = waits (f ∷ outer);
  runs = λ others. refl;
  turns = λ holder column line name u. turned_frame holder column line name f outer absent empty;
  shut = λ holder column u. not_back holder column f.holder f.column u;
  closes = refl;
}

leaf_reached : (f : Frame) (outer : List Frame) (at place : ℕ) (v : Leaf) → f.column < place → IsWithin (nests v) (length outer) → Reaches (waits (f ∷ outer)) (inside (leaf at place v) empty) outer f.holder f.column (with_row f (leaf at place v) empty)
unfolding closed run
leaf_reached f outer at place v deeper within = record {
  end = record { frames = f ∷ outer; tip = leaf at place v };
  runs = λ others. ap (λ o. run o others) (ap had (value_begins (nests v) place (leaf at place v) (waits (f ∷ outer)) (grind (arith, deeper)) (fine (nests v) within)));
  turns = λ holder column line name u. turned_frame holder column line name f outer (leaf at place v) empty;
  shut = λ holder column u. refl;
  closes = refl;
}
  where
    fine : (b : Bool) → IsWithin b (length outer) → (b && is_deep (f ∷ outer)) ≡ false
    fine true w = not_deep outer (w refl)
    fine false w = refl

content : (f : Frame) (outer : List Frame) (what : What) (inner : Forest) → RowFits (length outer) f.holder f.column what inner → ((around : List Frame) (g : Holder) (k : ℕ) → Fits (length around) g k inner → Reached around g k empty inner) → Reaches (waits (f ∷ outer)) (inside what inner) outer f.holder f.column (with_row f what inner)
unfolding closed run append
content f outer absent inner row again = subst (λ (i : Forest). Reaches (waits (f ∷ outer)) [] outer f.holder f.column (with_row f absent i)) (sym row.held) (absent_reached f outer)
content f outer (leaf at place v) inner row again = subst (λ (i : Forest). Reaches (waits (f ∷ outer)) (inside (leaf at place v) i) outer f.holder f.column (with_row f (leaf at place v) i)) (sym row.held.0) (leaf_reached f outer at place v row.held.1 row.held.2)
content f outer (rows g k) empty row again = absurd (row.held.0 refl)
content f outer (rows g k) (grows line name what inner later) row again = nested (again (f ∷ outer) g k (row.within g k refl)) (fits_at (suc (length outer)) g k empty line name what inner later (row.within g k refl)).new
  where
    nested : Reached (f ∷ outer) g k empty (grows line name what inner later) → IsNewIn g name empty → Reaches (waits (f ∷ outer)) (marks g k (grows line name what inner later)) outer f.holder f.column (with_row f (rows g k) (grows line name what inner later))
    nested r new =
        let begins : with_lead g k line name (waits (f ∷ outer)) ≡ Ok (waits (record { holder = g; column = k; before = empty; line = line; name = name } ∷ f ∷ outer)) = lead_begins g k line name (waits (f ∷ outer)) row.held.1 (not_deep outer row.held.2) in
        let says : said line k (says_of g name) (waits (f ∷ outer)) ≡ Some (waits (record { holder = g; column = k; before = empty; line = line; name = name } ∷ f ∷ outer)) =
        said_lead line k g name empty (waits (f ∷ outer)) new ∙ ap led begins ∙ ap (kept (waits (record { holder = g; column = k; before = empty; line = line; name = name } ∷ f ∷ outer))) (not_taken g name empty new) in
        record {
          end = r.end;
          runs = λ others. ap (λ ms. run (Some (waits (f ∷ outer))) (ms ++ others)) (marks_grows g k line name what inner later) ∙ ap (λ o. run o ((inside what inner ++ marks g k later) ++ others)) says ∙ r.runs others;
          turns = λ holder column at other u. r.turns holder column at other (record { is = inr (under_held holder column f.holder f.column g k u row.held.1) })
              ∙ past_held holder column at other g k (grows line name what inner later) (f ∷ outer) f.holder f.column u row.held.1
              ∙ turned_frame holder column at other f outer (rows g k) (grows line name what inner later);
          shut = λ holder column u. r.shut holder column (record { is = inr (under_held holder column f.holder f.column g k u row.held.1) });
          closes = r.closes;
        }

pub more_rows : (before : Forest) (line : ℕ) (name : List ℕ) (what : What) (inner later : Forest) → append (append before (one line name what inner)) later ≡ append before (grows line name what inner later)
unfolding append
more_rows before line name what inner later = append_append before (one line name what inner) later

append_assoc_at : (a b d : List Mark) (front : Front) → run (Some front) ((a ++ b) ++ d) ≡ run (Some front) (a ++ (b ++ d))
append_assoc_at a b d front = ap (run (Some front)) (append_assoc a b d)

start_empty : (level : ℕ) (h : Holder) (c : ℕ) (f : Forest) → Fits level h c f → Fits level h c (append empty f)
unfolding append
start_empty level h c f fits = fits

-- one row more, of the same rows
pub next_row : (h : Holder) (c : ℕ) (all : Forest) (outer : List Frame) (line : ℕ) (name : List ℕ) (front : Front) → ((holder : Holder) (column at : ℕ) (other : List ℕ) → Under holder column h c → turned holder column at other front.frames front.tip empty ≡ turned_past holder column at other h c all outer) → ((holder : Holder) (column : ℕ) → Under holder column h c → (is_absent front.tip && may_begin front.frames holder column) ≡ false) → IsNewIn h name all → (others : List Mark) → run (Some front) (lead h c line name ∷ others) ≡ run (Some (waits (record { holder = h; column = c; before = all; line = line; name = name } ∷ outer))) others
unfolding run
next_row h c all outer line name front turns shut new others =
    let next : List Frame = record { holder = h; column = c; before = all; line = line; name = name } ∷ outer in
    let goes : with_lead h c line name front ≡ Ok (waits next) = lead_turns h c line name front next (shut h c (under_self h c)) (turns h c line name (under_self h c) ∙ past_self h c line name all outer) in
    ap (λ o. run o others) (said_lead line c h name all front new ∙ ap led goes ∙ ap (kept (waits next)) (not_taken h name all new))

joined : (outer : List Frame) (h : Holder) (c : ℕ) (before : Forest) (line : ℕ) (name : List ℕ) (what : What) (inner later : Forest) → Reaches (waits (record { holder = h; column = c; before = before; line = line; name = name } ∷ outer)) (inside what inner) outer h c (append before (one line name what inner)) → Fits (length outer) h c (append (append before (one line name what inner)) later) → Reached outer h c (append before (one line name what inner)) later → Reached outer h c before (grows line name what inner later)
unfolding marks
joined outer h c before line name what inner empty r fits again = record {
  end = r.end;
  runs = λ others. ap (λ ms. run (Some (waits (record { holder = h; column = c; before = before; line = line; name = name } ∷ outer))) (ms ++ others)) (append-nil (inside what inner)) ∙ r.runs others;
  turns = r.turns;
  shut = r.shut;
  closes = r.closes;
}
joined outer h c before line name what inner (grows line2 name2 w i later) r fits again =
    let all : Forest = append before (one line name what inner) in
    let same : append all (grows line2 name2 w i later) ≡ append before (grows line name what inner (grows line2 name2 w i later)) = more_rows before line name what inner (grows line2 name2 w i later) in
    let new = (fits_at (length outer) h c all line2 name2 w i later fits).new in
    record {
      end = again.end;
      runs = λ others.
          append_assoc_at (inside what inner) (marks h c (grows line2 name2 w i later)) others (waits (record { holder = h; column = c; before = before; line = line; name = name } ∷ outer))
          ∙ r.runs (marks h c (grows line2 name2 w i later) ++ others)
          ∙ ap (λ ms. run (Some r.end) (ms ++ others)) (marks_grows h c line2 name2 w i later)
          ∙ next_row h c all outer line2 name2 r.end r.turns r.shut new ((inside w i ++ marks h c later) ++ others)
          ∙ again.runs others;
      turns = λ holder column at other u. again.turns holder column at other u ∙ ap (λ x. turned_past holder column at other h c x outer) same;
      shut = again.shut;
      closes = again.closes ∙ ap (λ x. closed outer (rows h c) x) same;
    }

-- reading rows leads to the front where they end
pub rows_reached : (forest : Forest) (outer : List Frame) (h : Holder) (c : ℕ) (before : Forest) → Fits (length outer) h c (append before forest) → Reached outer h c before forest
rows_reached empty outer h c before fits = tt
rows_reached (grows line name what inner later) outer h c before fits =
    let at = fits_at (length outer) h c before line name what inner later fits in
    let on : Fits (length outer) h c (append (append before (one line name what inner)) later) = subst (λ (x : Forest). Fits (length outer) h c x) (sym (more_rows before line name what inner later)) fits in
    joined outer h c before line name what inner later
    (content (record { holder = h; column = c; before = before; line = line; name = name }) outer what inner at.row (λ around g k f. rows_reached inner around g k empty (start_empty (length around) g k inner f)))
    on
    (rows_reached later outer h c (append before (one line name what inner)) on)
