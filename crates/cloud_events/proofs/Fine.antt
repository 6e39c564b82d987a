-- Values that are texts by themselves.
use Rattle.std.proofs.Common.{◌≡◌, ℕ, zero, suc, ◌+◌, ◌-◌, ◌<◌, ◌≤◌, Bool, true, false, cond, List, [], ◌∷◌, ◌++◌, length, take, drop, get_or, Option, Some, None, refl, sym, ap, subst, ◌∙◌, arith, codes}
use Rattle.std.specs.Prelude.{option_map}
use Rattle.std.specs.Str.{IsUtf8, is_utf8, bytes_eq}
use Rattle.std.proofs.lemmas.Str.{IsUtf8-from_is_utf8}
use Rattle.std.proofs.lemmas.Slice.Eq.{bytes_eq-Decides}
use Rattle.std.proofs.lemmas.List.{length-drop, length-take-le}
use Rattle.json_text.specs.Kind.{Kind}
use Rattle.json_text.specs.Kind.TheVariants as kinds
use Rattle.json_text.specs.declared.part.Part.TheVariants.{Start as first_part}
use Rattle.json_text.specs.declared.spot.Span.{Span}
use Rattle.json_text.specs.declared.spot.Spot.{Spot}
use Rattle.json_text.specs.declared.spot.Entry.{Entry}
use Rattle.json_text.specs.Forest.{Forest, empty, grows, one}
use Rattle.json_text.specs.Grammar.{IsText}
use Rattle.json_text.specs.Faults.{IsClean}
use Rattle.json_text.specs.Readable.{IsReadable}
use Rattle.json_text.specs.Reading.{entries}
use Rattle.json_text.specs.Shape.{AreInRow, is_holder, levels, nesting, value_bytes}
use Rattle.json_text.specs.Moved.{alone, back, moved}
use Rattle.json_text.specs.Spelling.{string_of}
use Rattle.json_text.specs.Unescape.{unescaped, content, name_in, name_shown, text_shown}
use Rattle.json_text.proofs.Clear.{text_clear, clear_completes, clear_clean}
use Rattle.json_text.proofs.Depths.{low_text}
use Rattle.json_text.proofs.Moves.{IsClearAlone, all_alone, alone_low, nesting_moved}
use Rattle.json_text.proofs.Readable.{texts_readable}
use Rattle.json_text.proofs.Shapes.{text_in_row}
use Rattle.json_text.proofs.ValueFacts.{EachValue}
use Rattle.json_text.proofs.WrittenTexts.{reads_back}
use Rattle.cloud_events.specs.declared.item.Value.TheVariants.{Simple, Other}
use Rattle.cloud_events.specs.Event.{spelled, spelled_value}
use Rattle.cloud_events.specs.Items.{by_kind, is_int32, item_at, said}
use Rattle.cloud_events.specs.Members.{has_name, is_null, last_of, or_else, unless_null}
use Rattle.cloud_events.specs.Wrapped.{IsRead}
use Rattle.cloud_events.proofs.Scanned.{none_some, some_same}

-- the bytes are a text without white space round it, of one value that is nested at most 63 deep, in which nothing is wrong
pub record Fine (value : List ℕ) : Type 0 where
  pub kind : Kind
  pub children : Forest
  pub text : IsText value (one (record { kind = kind; span = record { start = 0; end = length value }; name = None }) children)
  pub clean : IsClean value (length value + 1)
  pub low : levels (is_holder kind) (nesting children) ≤ 63

-- of this kind
abbrev pub FineAs : Kind → List ℕ → Type 0
FineAs kind value = (fine : Fine value) × (fine.kind ≡ kind)

pub text_fine_as : (text : List ℕ) → IsUtf8 text → FineAs kinds.Text (string_of text)
text_fine_as text utf8 =
    let back_is = reads_back text utf8 in
    (record { kind = kinds.Text; children = empty; text = back_is.spells; clean = back_is.clean; low = omega arith }, refl)

pub text_fine : (text : List ℕ) → IsUtf8 text → Fine (string_of text)
text_fine text utf8 = (text_fine_as text utf8).0

-- ---- values of a text

pub alone_fine : (bytes : List ℕ) (spot : Spot) (held : Forest) → IsClearAlone bytes spot held → spot.span.start < spot.span.end → spot.span.end ≤ length bytes → levels (is_holder spot.kind) (nesting held) ≤ 63 → FineAs spot.kind (value_bytes bytes spot)
alone_fine bytes spot held clear some within low =
    let from = spot.span.start in
    let to = spot.span.end in
    let value : List ℕ = value_bytes bytes spot in
    let inside : to - from ≤ length (drop from bytes) = omega (arith, length-drop from bytes, some, within) in
    let nothing : from - from ≡ 0 = omega arith in
    let all : to - from ≡ length value = sym (length-take-le (to - from) (drop from bytes) inside) in
    let text : IsText value (alone spot held) = clear_completes None first_part 0 (length value) value [] (alone spot held) clear in (
      record {
        kind = spot.kind;
        children = moved (back from) held;
        text = subst (λ (m : ℕ). IsText value (one (record { kind = spot.kind; span = record { start = 0; end = m }; name = None }) (moved (back from) held))) all
            (subst (λ (z : ℕ). IsText value (one (record { kind = spot.kind; span = record { start = z; end = to - from }; name = None }) (moved (back from) held))) nothing text);
        clean = clear_clean value (alone spot held) clear (alone_low spot held (omega (arith, low)));
        low = omega (arith, low, ap (levels (is_holder spot.kind)) (nesting_moved (back from) held));
      },
      refl,
    )

-- a fact of each value of a row
abbrev pub EachOf : (Spot → Type 0) → Forest → Type 0
EachOf P empty = Unit {0}
EachOf P (grows spot children later) = P spot × EachOf P later

-- its bytes are fine, and its text and its name are UTF-8
pub record IsFineAt (bytes : List ℕ) (spot : Spot) : Type 0 where
  pub fine : FineAs spot.kind (value_bytes bytes spot)
  pub long : spot.span.end - spot.span.start ≡ length (value_bytes bytes spot)
  pub readable : IsReadable bytes spot

abbrev AllKept : (Spot → Type 0) → List Entry → Type 0
AllKept P [] = Unit {0}
AllKept P (e ∷ es) = P e.spot × AllKept P es

kept_from : (P : Spot → Type 0) (xs : List Entry) → ((k : ℕ) (e : Entry) → k < length xs → P (get_or xs k e).spot) → AllKept P xs
kept_from P [] h = tt
kept_from P (x ∷ xs) h = (h zero x (omega arith), kept_from P xs (λ k e lt. h (suc k) e (omega (arith, lt))))

kept_behind : (P : Spot → Type 0) (xs ys : List Entry) → AllKept P (xs ++ ys) → AllKept P ys
kept_behind P [] ys h = h
kept_behind P (x ∷ xs) ys h = kept_behind P xs ys h.1

kept_front : (P : Spot → Type 0) (xs ys : List Entry) → AllKept P (xs ++ ys) → AllKept P xs
kept_front P [] ys h = tt
kept_front P (x ∷ xs) ys h = (h.0, kept_front P xs ys h.1)

row_kept : (P : Spot → Type 0) (depth : ℕ) (values : Forest) → AllKept P (entries depth values) → EachOf P values
unfolding entries
row_kept P depth empty h = tt
row_kept P depth (grows s c l) h = (h.0, row_kept P depth l (kept_behind P (entries (suc depth) c) (entries depth l) h.1))

held_kept : (P : Spot → Type 0) (depth : ℕ) (s : Spot) (c l : Forest) → AllKept P (entries depth (grows s c l)) → EachOf P c
unfolding entries
held_kept P depth s c l h = row_kept P (suc depth) c (kept_front P (entries (suc depth) c) (entries depth l) h.1)

span_long : (bytes : List ℕ) (s : Spot) → s.span.end ≤ length bytes → s.span.end - s.span.start ≡ length (value_bytes bytes s)
span_long bytes s within =
    let inside : s.span.end - s.span.start ≤ length (drop s.span.start bytes) = omega (arith, length-drop s.span.start bytes, within) in
    sym (length-take-le (s.span.end - s.span.start) (drop s.span.start bytes) inside)

fine_row : (bytes : List ℕ) (names : Bool) (from to : ℕ) (values : Forest) → to ≤ length bytes → nesting values ≤ 63 → AreInRow names from to values → EachValue (IsClearAlone bytes) values → EachOf (IsReadable bytes) values → EachOf (IsFineAt bytes) values
unfolding nesting
fine_row bytes names from to empty le low row clear readable = tt
fine_row bytes names from to (grows s c l) le low row clear readable = (
  record {
    fine = alone_fine bytes s c clear.0 row.0.some (omega (arith, le, row.0.high)) (omega (arith, low));
    long = span_long bytes s (omega (arith, le, row.0.high));
    readable = readable.0;
  },
  fine_row bytes names s.span.end to l le (omega (arith, low)) row.2 clear.2 readable.1,
)

all_readable : (bytes : List ℕ) (values : Forest) → IsRead bytes values → AllKept (IsReadable bytes) (entries 0 values)
all_readable bytes values read = kept_from (IsReadable bytes) (entries 0 values) (texts_readable bytes (entries 0 values) (record { values = values; text = read.text; nodes_are = refl; clean = read.clean }))

inner_low : (s : Spot) (c l : Forest) → is_holder s.kind ≡ true → nesting (grows s c l) ≤ 64 → nesting c ≤ 63
unfolding nesting
inner_low s c l is low = omega (arith, low, ap (λ b. levels b (nesting c)) is)

-- what a map of a text holds
pub held_fine : (bytes : List ℕ) (s : Spot) (c l : Forest) → IsRead bytes (grows s c l) → is_holder s.kind ≡ true → EachOf (IsFineAt bytes) c
held_fine bytes s c l read is =
    let row = text_in_row bytes (grows s c l) read.text in
    let clear = all_alone bytes (grows s c l) (text_clear bytes (grows s c l) read.text read.clean) in
    fine_row bytes _ (s.span.start + 1) (s.span.end - 1) c (omega (arith, row.0.high)) (inner_low s c l is (low_text bytes (grows s c l) read.text read.clean)) row.1 clear.1 (held_kept (IsReadable bytes) 0 s c l (all_readable bytes (grows s c l) read))

-- the whole value of a text
pub root_fine : (bytes : List ℕ) (s : Spot) (c l : Forest) → IsRead bytes (grows s c l) → levels (is_holder s.kind) (nesting c) ≤ 63 → Fine (value_bytes bytes s)
root_fine bytes s c l read low =
    let row = text_in_row bytes (grows s c l) read.text in
    let clear = all_alone bytes (grows s c l) (text_clear bytes (grows s c l) read.text read.clean) in
    (alone_fine bytes s c clear.0 row.0.some row.0.high low).0

-- ---- members by their names

found_by : (P : Spot → Type 0) (bytes name : List ℕ) (s spot : Spot) (l : Forest) (rest : Option Spot) (b : Bool) → has_name bytes s.name name ≡ b → P s → last_of bytes name l ≡ rest → or_else rest (cond b (Some s) None) ≡ Some spot
    → (last_of bytes name l ≡ Some spot → P spot × (has_name bytes spot.name name ≡ true)) → P spot × (has_name bytes spot.name name ≡ true)
found_by P bytes name s spot l (Some x) b e p f h later = later (f ∙ h)
found_by P bytes name s spot l None true e p f h later = let same : s ≡ spot = some_same s spot h in (subst P same p, ap (λ (t : Spot). has_name bytes t.name name) (sym same) ∙ e)
found_by P bytes name s spot l None false e p f h later = none_some spot _ h

pub found : (P : Spot → Type 0) (bytes name : List ℕ) (children : Forest) (spot : Spot) → EachOf P children → last_of bytes name children ≡ Some spot → P spot × (has_name bytes spot.name name ≡ true)
found P bytes name empty spot h e = none_some spot _ e
found P bytes name (grows s c l) spot h e = found_by P bytes name s spot l (last_of bytes name l) (has_name bytes s.name name) refl h.0 refl e (λ f. found P bytes name l spot h.1 f)

pub name_utf8 : (bytes name : List ℕ) (spot : Spot) (o : Option Span) → spot.name ≡ o → has_name bytes o name ≡ true → is_utf8 (name_shown bytes spot) ≡ true → IsUtf8 name
name_utf8 bytes name spot None e h utf8 = let bad : ⊥ = cc in absurd bad
name_utf8 bytes name spot (Some span) e h utf8 =
    let text : unescaped (content bytes span) ≡ name = (bytes_eq-Decides (unescaped (content bytes span)) name).0 h in
    IsUtf8-from_is_utf8 name (ap is_utf8 (sym text) ∙ ap (λ (o : Option Span). is_utf8 (name_in bytes o)) (sym e) ∙ utf8)

number_fine : (body : List ℕ) (a b : ℕ) (t : Bool) → Fine (take (b - a) (drop a body)) → Fine (spelled_value body a b (cond t Simple Other))
number_fine body a b true h = h
number_fine body a b false h = h

kind_fine : (body : List ℕ) (spot : Spot) (kind : Kind) → Fine (value_bytes body spot) → IsUtf8 (text_shown body spot) → Fine (spelled_value body spot.span.start spot.span.end (by_kind body spot kind))
kind_fine body spot kinds.Text h utf8 = text_fine (text_shown body spot) utf8
kind_fine body spot kinds.Number h utf8 = number_fine body spot.span.start spot.span.end (is_int32 (value_bytes body spot)) h
kind_fine body spot (kinds.Flag on) h utf8 = h
kind_fine body spot kinds.Null h utf8 = h
kind_fine body spot kinds.List h utf8 = h
kind_fine body spot kinds.Map h utf8 = h

value_fine : (body : List ℕ) (spot : Spot) (b : Bool) → Fine (value_bytes body spot) → IsUtf8 (text_shown body spot) → Fine (spelled_value body spot.span.start spot.span.end (cond b Other (by_kind body spot spot.kind)))
value_fine body spot true h utf8 = h
value_fine body spot false h utf8 = kind_fine body spot spot.kind h utf8

by_null : (body name : List ℕ) (spot : Spot) (v : List ℕ) (b : Bool) → option_map (spelled body) (option_map (item_at body name) (cond b None (Some spot))) ≡ Some v → Fine (spelled body (item_at body name spot)) → IsUtf8 name → Fine v × IsUtf8 name
by_null body name spot v true q value utf8 = none_some v _ q
by_null body name spot v false q value utf8 = (subst Fine (some_same (spelled body (item_at body name spot)) v q) value, utf8)

item_fine : (body name : List ℕ) (children : Forest) (found_spot : Option Spot) (v : List ℕ) → EachOf (IsFineAt body) children → last_of body name children ≡ found_spot
    → option_map (spelled body) (option_map (item_at body name) (unless_null found_spot)) ≡ Some v → Fine v × IsUtf8 name
item_fine body name children None v each e h = none_some v _ h
item_fine body name children (Some spot) v each e h =
    let p = found (IsFineAt body) body name children spot each e in
    by_null body name spot v (is_null spot.kind) h (value_fine body spot (bytes_eq name (codes "data")) p.0.fine.0 (IsUtf8-from_is_utf8 (text_shown body spot) p.0.readable.0))
    (name_utf8 body name spot spot.name refl p.1 p.0.readable.1)

pub said_fine : (body name : List ℕ) (children : Forest) (v : List ℕ) → EachOf (IsFineAt body) children → option_map (spelled body) (said body children name) ≡ Some v → Fine v × IsUtf8 name
said_fine body name children v each h = item_fine body name children (last_of body name children) v each refl h
