-- Rows one after the other: their marks, their entries, and how they fit.
use Rattle.std.proofs.Common.{◌≡◌, ◌≢◌, ℕ, suc, List, ◌∷◌, ◌++◌, refl, sym, ap, subst, ◌∙◌, append_assoc, append-nil}
use Rattle.yaml_subset.specs.declared.open.Holder.{Holder}
use Rattle.yaml_subset.specs.declared.open.Holder.TheVariants as holders
use Rattle.yaml_subset.specs.Tree.{What, absent, leaf, rows, Forest, empty, grows, one, append, entries, row_entries}
use Rattle.yaml_subset.specs.Layout.{lead, inside, marks, Lacks, IsNameIn, IsHeld, Fits}
use Rattle.yaml_subset.specs.Front.{IsNewIn}

pub marks_grows : (h : Holder) (c line : ℕ) (name : List ℕ) (what : What) (inner later : Forest) → marks h c (grows line name what inner later) ≡ lead h c line name ∷ (inside what inner ++ marks h c later)
unfolding marks
marks_grows h c line name absent inner later = refl
marks_grows h c line name (leaf at place value) inner later = refl
marks_grows h c line name (rows other place) inner later = refl

pub append_empty : (f : Forest) → append f empty ≡ f
unfolding append
append_empty empty = refl
append_empty (grows line name what inner later) = ap (λ r. grows line name what inner r) (append_empty later)

pub append_append : (f g k : Forest) → append (append f g) k ≡ append f (append g k)
unfolding append
append_append empty g k = refl
append_append (grows line name what inner later) g k = ap (λ r. grows line name what inner r) (append_append later g k)

pub marks_append : (h : Holder) (c : ℕ) (f g : Forest) → marks h c (append f g) ≡ marks h c f ++ marks h c g
unfolding append marks
marks_append h c empty g = refl
marks_append h c (grows line name what inner later) g =
    marks_grows h c line name what inner (append later g)
    ∙ ap (λ r. lead h c line name ∷ (inside what inner ++ r)) (marks_append h c later g)
    ∙ ap (λ r. lead h c line name ∷ r) (sym (append_assoc (inside what inner) (marks h c later) (marks h c g)))
    ∙ ap (λ r. r ++ marks h c g) (sym (marks_grows h c line name what inner later))

pub marks_one : (h : Holder) (c line : ℕ) (name : List ℕ) (what : What) (inner : Forest) → marks h c (one line name what inner) ≡ lead h c line name ∷ inside what inner
unfolding marks
marks_one h c line name what inner = marks_grows h c line name what inner empty ∙ ap (λ r. lead h c line name ∷ r) (append-nil (inside what inner))

pub entries_append : (depth : ℕ) (f g : Forest) → entries depth (append f g) ≡ entries depth f ++ entries depth g
unfolding append entries
entries_append depth empty g = refl
entries_append depth (grows line name what inner later) g =
    ap (λ r. row_entries depth line name what ++ (entries (suc depth) inner ++ r)) (entries_append depth later g)
    ∙ ap (λ r. row_entries depth line name what ++ r) (sym (append_assoc (entries (suc depth) inner) (entries depth later) (entries depth g)))
    ∙ sym (append_assoc (row_entries depth line name what) (entries (suc depth) inner ++ entries depth later) (entries depth g))

abbrev holder_in : What → Holder
holder_in absent = holders.File
holder_in (leaf at place value) = holders.File
holder_in (rows h k) = h

abbrev column_in : What → ℕ
column_in absent = 0
column_in (leaf at place value) = 0
column_in (rows h k) = k

-- a row fits where what it has does, its name is new to the rows after it, and those fit
pub record RowFits (level : ℕ) (h : Holder) (c : ℕ) (what : What) (inner : Forest) : Type 0 where
  pub held : IsHeld level h c what inner
  pub within : (other : Holder) (place : ℕ) → what ≡ rows other place → Fits (suc level) other place inner

pub fits_row : (level : ℕ) (h : Holder) (c line : ℕ) (name : List ℕ) (what : What) (inner later : Forest) → Fits level h c (grows line name what inner later) → RowFits level h c what inner × IsNameIn h name later × Fits level h c later
unfolding Fits
fits_row level h c line name absent inner later f = (record { held = f.0; within = λ other place e. cc }, f.1, f.2)
fits_row level h c line name (leaf at place value) inner later f = (record { held = f.0; within = λ other place e. cc }, f.1, f.2)
fits_row level h c line name (rows g k) inner later f = (record { held = f.0; within = λ other place e. subst2 level g k other place inner e f.3 }, f.1, f.2)
  where
    subst2 : (level : ℕ) (g : Holder) (k : ℕ) (other : Holder) (place : ℕ) (inner : Forest) → rows g k ≡ rows other place → Fits (suc level) g k inner → Fits (suc level) other place inner
    subst2 level g k other place inner e f = subst (λ (w : What). Fits (suc level) (holder_in w) (column_in w) inner) e f

pub fits_grows : (level : ℕ) (h : Holder) (c line : ℕ) (name : List ℕ) (what : What) (inner later : Forest) → RowFits level h c what inner → IsNameIn h name later → Fits level h c later → Fits level h c (grows line name what inner later)
unfolding Fits
fits_grows level h c line name absent inner later row new later_fits = (row.held, new, later_fits)
fits_grows level h c line name (leaf at place value) inner later row new later_fits = (row.held, new, later_fits)
fits_grows level h c line name (rows g k) inner later row new later_fits = (row.held, new, later_fits, row.within g k refl)

-- a name that later rows lack, in one more row
lacks_snoc : (name : List ℕ) (f : Forest) (line : ℕ) (other : List ℕ) (what : What) (inner : Forest) → Lacks name f → name ≢ other → Lacks name (append f (one line other what inner))
unfolding Lacks append
lacks_snoc name empty line other what inner l n = (n, tt)
lacks_snoc name (grows at x w i later) line other what inner l n = (l.0, lacks_snoc name later line other what inner l.1 n)

name_snoc : (h : Holder) (name : List ℕ) (f : Forest) (line : ℕ) (other : List ℕ) (what : What) (inner : Forest) (at : ℕ) (w : What) (i : Forest) → IsNameIn h name f → IsNewIn h other (grows at name w i f) → IsNameIn h name (append f (one line other what inner))
unfolding Lacks
name_snoc holders.File name f line other what inner at w i n new = n
name_snoc holders.Mapping name f line other what inner at w i n new = lacks_snoc name f line other what inner n (λ e. new.0 (sym e))
name_snoc holders.Sequence name f line other what inner at w i n new = n

new_later : (h : Holder) (other : List ℕ) (at : ℕ) (name : List ℕ) (w : What) (i f : Forest) → IsNewIn h other (grows at name w i f) → IsNewIn h other f
unfolding Lacks
new_later holders.File other at name w i f new = new
new_later holders.Mapping other at name w i f new = new.1
new_later holders.Sequence other at name w i f new = new

name_alone : (h : Holder) (name : List ℕ) → IsNewIn h name empty → IsNameIn h name empty
unfolding Lacks
name_alone holders.File name new = new
name_alone holders.Mapping name new = new
name_alone holders.Sequence name new = new

-- rows that fit, and one more at their end
pub fits_snoc : (level : ℕ) (h : Holder) (c : ℕ) (before : Forest) (line : ℕ) (name : List ℕ) (what : What) (inner : Forest) → Fits level h c before → IsNewIn h name before → RowFits level h c what inner → Fits level h c (append before (one line name what inner))
unfolding append Fits
fits_snoc level h c empty line name what inner fits new row = fits_grows level h c line name what inner empty row (name_alone h name new) tt
fits_snoc level h c (grows at other w i later) line name what inner fits new row =
    let p = fits_row level h c at other w i later fits in
    fits_grows level h c at other w i (append later (one line name what inner)) p.0
    (name_snoc h other later line name what inner at w i p.1 new)
    (fits_snoc level h c later line name what inner p.2 (new_later h name at other w i later new) row)

lacks_of : (name : List ℕ) (f : Forest) (line : ℕ) (other : List ℕ) (what : What) (inner later : Forest) → Lacks name (append f (grows line other what inner later)) → (name ≢ other) × Lacks name f
unfolding Lacks append
lacks_of name empty line other what inner later l = (l.0, tt)
lacks_of name (grows at x w i rest) line other what inner later l = let p = lacks_of name rest line other what inner later l.1 in (p.0, (l.0, p.1))

name_front : (h : Holder) (name : List ℕ) (f : Forest) (line : ℕ) (other : List ℕ) (what : What) (inner later : Forest) → IsNameIn h name (append f (grows line other what inner later)) → IsNameIn h name f
name_front holders.File name f line other what inner later n = n
name_front holders.Mapping name f line other what inner later n = (lacks_of name f line other what inner later n).1
name_front holders.Sequence name f line other what inner later n = n

new_front : (h : Holder) (at : ℕ) (name : List ℕ) (w : What) (i f : Forest) (line : ℕ) (other : List ℕ) (what : What) (inner later : Forest) → IsNameIn h name (append f (grows line other what inner later)) → IsNewIn h other f → IsNewIn h other (grows at name w i f)
unfolding Lacks
new_front holders.File at name w i f line other what inner later n new = new
new_front holders.Mapping at name w i f line other what inner later n new = (λ e. (lacks_of name f line other what inner later n).0 (sym e), new)
new_front holders.Sequence at name w i f line other what inner later n new = new

new_alone : (h : Holder) (name : List ℕ) (later : Forest) → IsNameIn h name later → IsNewIn h name empty
unfolding Lacks
new_alone holders.File name later n = n
new_alone holders.Mapping name later n = tt
new_alone holders.Sequence name later n = n

-- in rows that fit, each row's name is new to those before it
pub record FitsAt (level : ℕ) (h : Holder) (c : ℕ) (before : Forest) (name : List ℕ) (what : What) (inner : Forest) : Type 0 where
  pub front : Fits level h c before
  pub new : IsNewIn h name before
  pub row : RowFits level h c what inner

pub fits_at : (level : ℕ) (h : Holder) (c : ℕ) (before : Forest) (line : ℕ) (name : List ℕ) (what : What) (inner later : Forest) → Fits level h c (append before (grows line name what inner later)) → FitsAt level h c before name what inner
unfolding append Fits
fits_at level h c empty line name what inner later fits =
    let p = fits_row level h c line name what inner later fits in record { front = tt; new = new_alone h name later p.1; row = p.0 }
fits_at level h c (grows at other w i rest) line name what inner later fits =
    let p = fits_row level h c at other w i (append rest (grows line name what inner later)) fits in
    let q = fits_at level h c rest line name what inner later p.2 in
    record {
      front = fits_grows level h c at other w i rest p.0 (name_front h other rest line name what inner later p.1) q.front;
      new = new_front h at other w i rest line name what inner later p.1 q.new;
      row = q.row;
    }
