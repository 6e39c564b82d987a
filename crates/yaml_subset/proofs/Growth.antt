-- What a line adds to the entries and to what is open.
use Rattle.std.proofs.Common.{◌≡◌, ◌≢◌, ℕ, zero, suc, ◌+◌, ◌≤◌, Bool, true, false, ◌&&◌, ◌||◌, ◌==◌, List, [], ◌∷◌, ◌++◌, length, take, refl, sym, ap, ◌∙◌, arith, subst, append_assoc, append-nil, Some, None}
use Rattle.std.specs.Prelude.{nat_lt, if◌then◌else◌, map, bytes_eq}
use Rattle.std.proofs.lemmas.List.{length-append}
use Rattle.std.proofs.lemmas.Bool.Decides.{Decides-eqb}
use Rattle.yaml_lines.specs.declared.kind.PartKind.{PartKind}
use Rattle.yaml_lines.specs.declared.kind.PartKind.TheVariants as kinds
use Rattle.yaml_lines.specs.declared.value.Item.{Item}
use Rattle.yaml_lines.specs.Leaf.{Scalar, Leaf}
use Rattle.yaml_lines.specs.Shown.{item_shown}
use Rattle.yaml_subset.specs.declared.node.Node.{Node}
use Rattle.yaml_subset.specs.declared.open.Holder.{Holder}
use Rattle.yaml_subset.specs.declared.open.Holder.TheVariants as holders
use Rattle.yaml_subset.specs.declared.open.Open.{Open}
use Rattle.yaml_subset.specs.Tree.{What, absent, leaf, rows, Forest, empty, grows, one, append, Entry, holder_kind, item_entries, row_entries, entries}
use Rattle.yaml_subset.specs.Front.{Frame}
use Rattle.yaml_subset.specs.Refusal.{is_holder, with_row, turned, may_have, name_is_taken}
use Rattle.yaml_subset.specs.Names.{has_name}
use Rattle.yaml_subset.specs.Held.{node_shown, entries_open, opened, openings, AreNames, last_with, with_kind}
use Rattle.yaml_subset.specs.Kept.{kept_count}
use Rattle.yaml_subset.proofs.Known.{or_exchange}
use Rattle.yaml_subset.proofs.Rows.{entries_append}

pub last_snoc : (kind : PartKind) (text : List ℕ) (xs : List Entry) (e : Entry) → last_with kind text (xs ++ (e ∷ [])) ≡ xs ++ (with_kind kind text e ∷ [])
unfolding last_with
last_snoc kind text [] e = refl
last_snoc kind text (x ∷ []) e = refl
last_snoc kind text (x ∷ y ∷ xs) e = ap (λ l. x ∷ l) (last_snoc kind text (y ∷ xs) e)

pub last_none : (kind : PartKind) (text : List ℕ) → last_with kind text [] ≡ []
unfolding last_with
last_none kind text = refl

-- the entries before the last row
abbrev pub entries_before : Frame → List Frame → List Entry
entries_before f outer = entries_open outer (rows f.holder f.column) ++ entries (length outer) f.before

pub open_split : (f : Frame) (outer : List Frame) (what : What) → entries_open (f ∷ outer) what ≡ entries_before f outer ++ row_entries (length outer) f.line f.name what
unfolding entries_open
open_split f outer what = sym (append_assoc (entries_open outer (rows f.holder f.column)) (entries (length outer) f.before) (row_entries (length outer) f.line f.name what))

-- the last row gets rows
pub set_rows : (h : Holder) (c : ℕ) (frames : List Frame) → last_with (holder_kind h) [] (entries_open frames absent) ≡ entries_open frames (rows h c)
unfolding entries_open last_with
set_rows h c [] = refl
set_rows h c (f ∷ outer) =
    ap (last_with (holder_kind h) []) (open_split f outer absent)
    ∙ last_snoc (holder_kind h) [] (entries_before f outer) (record { depth = length outer; line = f.line; kind = kinds.Empty; name = f.name; text = [] })
    ∙ sym (open_split f outer (rows h c))

-- or a value
pub set_leaf : (line c : ℕ) (v : Leaf) (f : Frame) (outer : List Frame) → last_with v.kind v.text (entries_open (f ∷ outer) absent) ++ item_entries (length (f ∷ outer)) line v.items ≡ entries_open (f ∷ outer) (leaf line c v)
set_leaf line c v f outer =
    ap (λ l. last_with v.kind v.text l ++ item_entries (length (f ∷ outer)) line v.items) (open_split f outer absent)
    ∙ ap (λ l. l ++ item_entries (length (f ∷ outer)) line v.items) (last_snoc v.kind v.text (entries_before f outer) (record { depth = length outer; line = f.line; kind = kinds.Empty; name = f.name; text = [] }))
    ∙ append_assoc (entries_before f outer) (record { depth = length outer; line = f.line; kind = v.kind; name = f.name; text = v.text } ∷ []) (item_entries (length (f ∷ outer)) line v.items)
    ∙ sym (open_split f outer (leaf line c v))

-- rows that begin
pub begun : (h : Holder) (c line : ℕ) (name : List ℕ) (frames : List Frame) → entries_open frames (rows h c) ++ (record { depth = length frames; line = line; kind = kinds.Empty; name = name; text = [] } ∷ []) ≡ entries_open (record { holder = h; column = c; before = empty; line = line; name = name } ∷ frames) absent
unfolding entries_open entries
begun h c line name frames = refl

-- all entries where the last row has this, with the rows in it
unfoldable pub entries_with : List Frame → What → Forest → List Entry
entries_with [] what inner = []
entries_with (f ∷ outer) what inner = entries_open outer (rows f.holder f.column) ++ (entries (length outer) f.before ++ (row_entries (length outer) f.line f.name what ++ entries (suc (length outer)) inner))

pub with_none : (frames : List Frame) (what : What) → entries_with frames what empty ≡ entries_open frames what
unfolding entries_with entries_open entries
with_none [] what = refl
with_none (f ∷ outer) what = ap (λ l. entries_open outer (rows f.holder f.column) ++ (entries (length outer) f.before ++ l)) (append-nil (row_entries (length outer) f.line f.name what))

pub row_added : (d : ℕ) (before : Forest) (line : ℕ) (name : List ℕ) (what : What) (inner : Forest) → entries d (append before (one line name what inner)) ≡ entries d before ++ (row_entries d line name what ++ entries (suc d) inner)
unfolding entries
row_added d before line name what inner = entries_append d before (one line name what inner) ∙ ap (λ l. entries d before ++ (row_entries d line name what ++ l)) (append-nil (entries (suc d) inner))

-- the names of the parts that stay open, of which the innermost has these whole rows
pub record StayNamed (outer : List Frame) (before : Forest) (kept : List (List (List ℕ))) : Type 0 where
  pub others : List (List (List ℕ))
  pub own : List (List ℕ)
  pub is : kept ≡ others ++ (own ∷ [])
  pub has : (other : List ℕ) → has_name own other ≡ name_is_taken before other
  pub outside : AreNames outer others

names_long : (frames : List Frame) (all : List (List (List ℕ))) → AreNames frames all → length all ≡ length frames
unfolding AreNames
names_long [] all e = ap length e
names_long (f ∷ outer) all named = let e = names_long outer named.0 named.4 in let s : length (named.0 ++ (named.1 ∷ [])) ≡ length named.0 + 1 = length-append named.0 (named.1 ∷ []) in let l : length all ≡ length (named.0 ++ (named.1 ∷ [])) = ap length named.2 in omega (arith, e, s, l)

-- one more whole row
taken_with : (before : Forest) (line : ℕ) (name : List ℕ) (what : What) (inner : Forest) (other : List ℕ) → name_is_taken (append before (one line name what inner)) other ≡ (bytes_eq other name || name_is_taken before other)
unfolding append
taken_with empty line name what inner other = refl
taken_with (grows at first has own later) line name what inner other =
    ap (λ b. bytes_eq other first || b) (taken_with later line name what inner other)
    ∙ or_exchange (bytes_eq other first) (bytes_eq other name) (name_is_taken later other)

-- what rows that take one more come to
pub record TurnedTo (h : Holder) (c line : ℕ) (name : List ℕ) (frames : List Frame) (what : What) (inner : Forest) (count : ℕ) : Type 0 where
  pub outer : List Frame
  pub before : Forest
  pub is : turned h c line name frames what inner ≡ Some (record { holder = h; column = c; before = before; line = line; name = name } ∷ outer)
  pub counted : count ≡ suc (length outer)
  pub kept : take count (openings frames) ≡ openings outer ++ (opened (record { holder = h; column = c; before = before; line = line; name = name }) ∷ [])
  pub names : (all : List (List (List ℕ))) → AreNames frames all → StayNamed outer before (take count all)
  pub split : entries_with frames what inner ≡ entries_open outer (rows h c) ++ entries (length outer) before

take_snoc : {T : Type 0} (xs ys : List T) → take (length xs) (xs ++ ys) ≡ xs
take_snoc [] ys = refl
take_snoc (x ∷ xs) ys = ap (λ l. x ∷ l) (take_snoc xs ys)

openings_long : (frames : List Frame) → length (openings frames) ≡ length frames
unfolding openings
openings_long [] = refl
openings_long (f ∷ outer) = let e = openings_long outer in let l : length (openings outer ++ (opened f ∷ [])) ≡ length (openings outer) + 1 = length-append (openings outer) (opened f ∷ []) in omega (arith, e, l)

take_front : {T : Type 0} (n : ℕ) (xs ys : List T) → n ≤ length xs → take n (xs ++ ys) ≡ take n xs
take_front zero xs ys h = refl
take_front (suc n) [] ys h = absurd (omega (arith, h))
take_front (suc n) (x ∷ xs) ys h = ap (λ l. x ∷ l) (take_front n xs ys (omega (arith, h)))

take_all : {T : Type 0} (n : ℕ) (xs : List T) → length xs ≤ n → take n xs ≡ xs
take_all zero [] h = refl
take_all zero (x ∷ xs) h = absurd (omega (arith, h))
take_all (suc n) [] h = refl
take_all (suc n) (x ∷ xs) h = ap (λ l. x ∷ l) (take_all n xs (omega (arith, h)))

some_is : (a b : ℕ) → Some a ≡ Some b → a ≡ b
some_is a b e = cc

same_holder : (h g : Holder) → is_holder h g ≡ true → h ≡ g
same_holder holders.File holders.File e = refl
same_holder holders.Mapping holders.Mapping e = refl
same_holder holders.Sequence holders.Sequence e = refl
same_holder holders.File holders.Mapping e = cc
same_holder holders.File holders.Sequence e = cc
same_holder holders.Mapping holders.File e = cc
same_holder holders.Mapping holders.Sequence e = cc
same_holder holders.Sequence holders.File e = cc
same_holder holders.Sequence holders.Mapping e = cc

both : (a b : Bool) → (a && b) ≡ true → (a ≡ true) × (b ≡ true)
both true b e = (refl, e)
both false b e = cc

-- what is kept is counted below what is open
kept_below : (h : Holder) (c : ℕ) (frames : List Frame) (count : ℕ) → kept_count h c frames ≡ Some count → count ≤ length frames
unfolding kept_count
kept_below h c [] count e = cc
kept_below h c (f ∷ outer) count e = by_match (λ k. kept_below h c outer count k) (is_holder f.holder h && f.column == c) (nat_lt f.column c) e
  where
    by_match : (kept_count h c outer ≡ Some count → count ≤ length outer) → (b d : Bool) → (if b then Some (suc (length outer)) else if d then None else kept_count h c outer) ≡ Some count → count ≤ length (f ∷ outer)
    by_match again true d e = let n : suc (length outer) ≡ count = some_is (suc (length outer)) count e in omega (arith, n)
    by_match again false true e = cc
    by_match again false false e = omega (arith, again e)

turned_here : (f : Frame) (outer : List Frame) (h : Holder) (c line : ℕ) (name : List ℕ) (what : What) (inner : Forest) (count : ℕ) → (is_holder f.holder h && f.column == c) ≡ true → Some (suc (length outer)) ≡ Some count → TurnedTo h c line name (f ∷ outer) what inner count
unfolding turned openings entries_with AreNames
turned_here f outer h c line name what inner count m e =
    let p = both (is_holder f.holder h) (f.column == c) m in
    let same : f.holder ≡ h = same_holder f.holder h p.0 in
    let at : f.column ≡ c = (Decides-eqb f.column c).0 p.1 in
    let counted : count ≡ suc (length outer) = sym (some_is (suc (length outer)) count e) in
    record {
      outer = outer;
      before = with_row f what inner;
      is = rw m (ap (λ x. Some (record { holder = x; column = f.column; before = with_row f what inner; line = line; name = name } ∷ outer)) same ∙ ap (λ x. Some (record { holder = h; column = x; before = with_row f what inner; line = line; name = name } ∷ outer)) at);
      counted = counted;
      kept = take_all count (openings outer ++ (opened f ∷ [])) (omega (arith, counted, openings_long outer, length-append (openings outer) (opened f ∷ [])))
          ∙ ap (λ (o : Open). openings outer ++ (o ∷ [])) (ap (λ x. record { holder = x; column = f.column }) same ∙ ap (λ x. record { holder = h; column = x }) at);
      names = λ all named. record {
        others = named.0;
        own = named.1;
        is = take_all count all (omega (arith, counted, names_long (f ∷ outer) all named)) ∙ named.2;
        has = λ other. named.3 other ∙ sym (taken_with f.before f.line f.name what inner other);
        outside = named.4;
      };
      split = ap (λ l. entries_open outer (rows f.holder f.column) ++ l) (sym (row_added (length outer) f.before f.line f.name what inner))
          ∙ ap (λ x. entries_open outer (rows x f.column) ++ entries (length outer) (with_row f what inner)) same ∙ ap (λ x. entries_open outer (rows h x) ++ entries (length outer) (with_row f what inner)) at;
    }

-- a part that is closed is a row's content
pub closed_with : (f : Frame) (outer : List Frame) (what : What) (inner : Forest) → outer ≢ [] → entries_with outer (rows f.holder f.column) (with_row f what inner) ≡ entries_with (f ∷ outer) what inner
unfolding entries_with entries_open
closed_with f [] what inner n = absurd (n refl)
closed_with f (g ∷ rest) what inner n =
    let d : ℕ = length rest in
    let a : List Entry = entries_open rest (rows g.holder g.column) in
    let b : List Entry = entries d g.before in
    let r : List Entry = row_entries d g.line g.name (rows f.holder f.column) in
    let x : List Entry = entries (suc d) f.before ++ (row_entries (suc d) f.line f.name what ++ entries (suc (suc d)) inner) in
    ap (λ l. a ++ (b ++ (r ++ l))) (row_added (suc d) f.before f.line f.name what inner)
    ∙ ap (λ l. a ++ l) (sym (append_assoc b r x))
    ∙ sym (append_assoc a (b ++ r) x)

turned_past : (f : Frame) (outer : List Frame) (h : Holder) (c line : ℕ) (name : List ℕ) (what : What) (inner : Forest) (count : ℕ) → (is_holder f.holder h && f.column == c) ≡ false → nat_lt f.column c ≡ false → kept_count h c outer ≡ Some count → TurnedTo h c line name outer (rows f.holder f.column) (with_row f what inner) count → TurnedTo h c line name (f ∷ outer) what inner count
unfolding turned openings kept_count AreNames
turned_past f outer h c line name what inner count m l k t = record {
  outer = t.outer;
  before = t.before;
  is = rw (m, l) t.is;
  counted = t.counted;
  kept = take_front count (openings outer) (opened f ∷ []) (omega (arith, kept_below h c outer count k, openings_long outer)) ∙ t.kept;
  names = λ all named. subst (StayNamed t.outer t.before)
      (sym (ap (take count) named.2 ∙ take_front count named.0 (named.1 ∷ []) (omega (arith, kept_below h c outer count k, names_long outer named.0 named.4))))
      (t.names named.0 named.4);
  split = sym (closed_with f outer what inner (some_outer outer k)) ∙ t.split;
}
  where
    some_outer : (outer : List Frame) → kept_count h c outer ≡ Some count → outer ≢ []
    some_outer [] k e = cc
    some_outer (g ∷ rest) k e = cc

pub turned_to : (frames : List Frame) (h : Holder) (c line : ℕ) (name : List ℕ) (what : What) (inner : Forest) (count : ℕ) → kept_count h c frames ≡ Some count → TurnedTo h c line name frames what inner count
unfolding kept_count
turned_to [] h c line name what inner count e = cc
turned_to (f ∷ outer) h c line name what inner count e =
    by_match (λ k. turned_to outer h c line name (rows f.holder f.column) (with_row f what inner) count k) (is_holder f.holder h && f.column == c) (nat_lt f.column c) refl refl e
  where
    by_match : (kept_count h c outer ≡ Some count → TurnedTo h c line name outer (rows f.holder f.column) (with_row f what inner) count) → (b d : Bool) → (is_holder f.holder h && f.column == c) ≡ b → nat_lt f.column c ≡ d → (if b then Some (suc (length outer)) else if d then None else kept_count h c outer) ≡ Some count → TurnedTo h c line name (f ∷ outer) what inner count
    by_match again true d m l e = turned_here f outer h c line name what inner count m e
    by_match again false true m l e = cc
    by_match again false false m l e = turned_past f outer h c line name what inner count m l e (again e)

pub turned_none : (frames : List Frame) (h : Holder) (c line : ℕ) (name : List ℕ) (what : What) (inner : Forest) → kept_count h c frames ≡ None → turned h c line name frames what inner ≡ None
unfolding kept_count turned
turned_none [] h c line name what inner e = refl
turned_none (f ∷ outer) h c line name what inner e =
    by_match (λ k. turned_none outer h c line name (rows f.holder f.column) (with_row f what inner) k) (is_holder f.holder h && f.column == c) (nat_lt f.column c) e
  where
    by_match : (kept_count h c outer ≡ None → turned h c line name outer (rows f.holder f.column) (with_row f what inner) ≡ None) → (b d : Bool) → (if b then Some (suc (length outer)) else if d then None else kept_count h c outer) ≡ None → (if b then Some (record { holder = f.holder; column = f.column; before = with_row f what inner; line = line; name = name } ∷ outer) else if d then None else turned h c line name outer (rows f.holder f.column) (with_row f what inner)) ≡ None
    by_match again true d e = cc
    by_match again false true e = refl
    by_match again false false e = again e

pub shown_append : (a b : List Node) → map node_shown (a ++ b) ≡ map node_shown a ++ map node_shown b
shown_append [] b = refl
shown_append (x ∷ a) b = ap (λ l. node_shown x ∷ l) (shown_append a b)

pub items_append : (depth line : ℕ) (xs ys : List Scalar) → item_entries depth line (xs ++ ys) ≡ item_entries depth line xs ++ item_entries depth line ys
items_append depth line [] ys = refl
items_append depth line (x ∷ xs) ys = ap (λ l. record { depth = depth; line = line; kind = x.kind; name = []; text = x.text } ∷ l) (items_append depth line xs ys)

pub held_append : (xs ys : List Item) → map item_shown (xs ++ ys) ≡ map item_shown xs ++ map item_shown ys
held_append [] ys = refl
held_append (x ∷ xs) ys = ap (λ l. item_shown x ∷ l) (held_append xs ys)

pub no_nodes : (nodes : List Node) → length nodes ≡ 0 → nodes ≡ []
no_nodes [] e = refl
no_nodes (x ∷ nodes) e = absurd (omega (arith, e))

pub shown_length : (nodes : List Node) → length (map node_shown nodes) ≡ length nodes
shown_length [] = refl
shown_length (x ∷ nodes) = ap suc (shown_length nodes)

pub opened_more : (h : Holder) (c line : ℕ) (name : List ℕ) (frames : List Frame) → openings frames ++ (record { holder = h; column = c } ∷ []) ≡ openings (record { holder = h; column = c; before = empty; line = line; name = name } ∷ frames)
unfolding openings
opened_more h c line name frames = refl

pub turned_added : (h : Holder) (c line : ℕ) (name : List ℕ) (before : Forest) (outer : List Frame) → (entries_open outer (rows h c) ++ entries (length outer) before) ++ (record { depth = length outer; line = line; kind = kinds.Empty; name = name; text = [] } ∷ []) ≡ entries_open (record { holder = h; column = c; before = before; line = line; name = name } ∷ outer) absent
turned_added h c line name before outer = sym (open_split (record { holder = h; column = c; before = before; line = line; name = name }) outer absent)

pub opened_row : (f : Frame) (outer : List Frame) → openings outer ++ (opened f ∷ []) ≡ openings (f ∷ outer)
unfolding openings
opened_row f outer = refl

pub map_same : {T : Type 0} (xs : List T) → map (λ y. y) xs ≡ xs
map_same [] = refl
map_same (x ∷ xs) = ap (λ l. x ∷ l) (map_same xs)

pub leaf_set : (line c : ℕ) (v : Leaf) (frames : List Frame) → may_have frames c ≡ true → last_with v.kind v.text (entries_open frames absent) ++ item_entries (length frames) line v.items ≡ entries_open frames (leaf line c v)
leaf_set line c v [] h = cc
leaf_set line c v (f ∷ outer) h = set_leaf line c v f outer
