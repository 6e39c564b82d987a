-- A value that is written as a member, and read again.
use Rattle.std.proofs.Common.{◌≡◌, ℕ, zero, suc, ◌+◌, ◌-◌, Bool, true, false, cond, ◌||◌, List, [], ◌∷◌, length, take, drop, Option, Some, None, refl, sym, ap, subst, ◌∙◌, arith, codes}
use Rattle.std.specs.Prelude.{not, option_map}
use Rattle.std.specs.Str.{IsUtf8, bytes_eq}
use Rattle.std.proofs.lemmas.List.{drop-drop}
use Rattle.std.proofs.Math.Seq.{take-length}
use Rattle.std.proofs.lemmas.Slice.Eq.{bytes_eq-Decides}
use Rattle.std.proofs.lemmas.Str.{IsUtf8-from_is_utf8}
use Rattle.json_text.specs.Kind.{Kind}
use Rattle.json_text.specs.Kind.TheVariants as kinds
use Rattle.json_text.specs.declared.spot.Spot.{Spot}
use Rattle.json_text.specs.Forest.{Forest}
use Rattle.json_text.specs.Shape.{value_bytes}
use Rattle.json_text.specs.Spelling.{string_of}
use Rattle.json_text.specs.Unescape.{unescaped, content, text_in, text_shown}
use Rattle.json_text.proofs.WrittenTexts.{reads_back}
use Rattle.cloud_events.specs.declared.item.Item.{Item}
use Rattle.cloud_events.specs.declared.item.Value.{Value}
use Rattle.cloud_events.specs.declared.item.Value.TheVariants.{Text, Simple, Other, Body, Encoded}
use Rattle.cloud_events.specs.Base.{IsBase64}
use Rattle.cloud_events.specs.Clock.{IsTime}
use Rattle.cloud_events.specs.Event.{spelled, spelled_value}
use Rattle.cloud_events.specs.Items.{by_kind, is_int32, item_at, number_value, part, said, value_at}
use Rattle.cloud_events.specs.Judge.{AreEvents, IsBaseValue, IsTimeValue, is_attribute, is_data_name}
use Rattle.cloud_events.specs.Members.{is_null, last_of, unless_null}
use Rattle.cloud_events.proofs.Fine.{EachOf, Fine, FineAs, IsFineAt, found, name_utf8, text_fine_as}
use Rattle.cloud_events.proofs.Scanned.{none_some, some_same}

-- ---- a value by itself

-- a value that takes all of the bytes
abbrev pub whole : Kind → List ℕ → Spot
whole kind value = record { kind = kind; span = record { start = 0; end = length value }; name = None }

take_less : (n : ℕ) (xs : List ℕ) → take n xs ≡ take n (take (suc n) xs)
take_less zero xs = refl
take_less (suc n) [] = refl
take_less (suc n) (x ∷ xs) = ap (λ l. x ∷ l) (take_less n xs)

-- between the first and the last of n
inner : (n m : ℕ) (xs : List ℕ) → m ≡ n - 2 → take m (drop 1 xs) ≡ take m (drop 1 (take n xs))
inner n zero xs e = refl
inner n (suc m) [] e = (let long : n ≡ suc (suc (suc m)) = omega (arith, e) in ap (λ k. take (suc m) (drop 1 (take k []))) (sym long))
inner n (suc m) (x ∷ xs) e = (let long : n ≡ suc (suc (suc m)) = omega (arith, e) in take_less (suc m) xs ∙ ap (λ k. take (suc m) (drop 1 (take k (x ∷ xs)))) (sym long))

content_alone : (bytes v : List ℕ) (s : Spot) → value_bytes bytes s ≡ v → s.span.end - s.span.start ≡ length v → content bytes s.span ≡ content v (record { start = 0; end = length v })
content_alone bytes v s e long =
    let n = s.span.end - s.span.start in
    let some : s.span.end - 1 - (s.span.start + 1) ≡ n - 2 = omega arith in
    let whole_some : length v - 1 - (0 + 1) ≡ n - 2 = omega (arith, long) in
    ap (λ m. take m (drop (s.span.start + 1) bytes)) some
    ∙ ap (take (n - 2)) (sym (drop-drop 1 s.span.start bytes))
    ∙ inner n (n - 2) (drop s.span.start bytes) refl
    ∙ ap (λ l. take (n - 2) (drop 1 l)) e
    ∙ ap (λ m. take m (drop 1 v)) (sym whole_some)

text_alone : (bytes v : List ℕ) (s t : Spot) (kind : Kind) → content bytes s.span ≡ content v t.span → text_in bytes s kind ≡ text_in v t kind
text_alone bytes v s t kinds.Text e = ap unescaped e
text_alone bytes v s t kinds.Null e = refl
text_alone bytes v s t kinds.Number e = refl
text_alone bytes v s t (kinds.Flag on) e = refl
text_alone bytes v s t kinds.List e = refl
text_alone bytes v s t kinds.Map e = refl

kind_alone : (bytes v : List ℕ) (s t : Spot) (kind : Kind) → text_shown bytes s ≡ text_shown v t → value_bytes bytes s ≡ value_bytes v t → by_kind bytes s kind ≡ by_kind v t kind
kind_alone bytes v s t kinds.Text e f = ap Text e
kind_alone bytes v s t kinds.Number e f = ap number_value f
kind_alone bytes v s t kinds.Null e f = refl
kind_alone bytes v s t (kinds.Flag on) e f = refl
kind_alone bytes v s t kinds.List e f = refl
kind_alone bytes v s t kinds.Map e f = refl

whole_bytes : (kind : Kind) (v : List ℕ) → value_bytes v (whole kind v) ≡ v
whole_bytes kind v = (let all : length v - 0 ≡ length v = omega arith in ap (λ n. take n v) all ∙ take-length v)

-- a value is what its bytes are by themselves
pub value_alone : (bytes name v : List ℕ) (s : Spot) → value_bytes bytes s ≡ v → s.span.end - s.span.start ≡ length v → value_at bytes name s ≡ value_at v name (whole s.kind v)
value_alone bytes name v s e long =
    let text = text_alone bytes v s (whole s.kind v) s.kind (content_alone bytes v s e long) in
    ap (cond (bytes_eq name (codes "data")) Other) (kind_alone bytes v s (whole s.kind v) s.kind text (e ∙ sym (whole_bytes s.kind v)))

-- ---- a value under a name

-- the bytes are what the value is spelled as, wherever it stands
abbrev pub IsSpelledAs : List ℕ → Value → Type 0
IsSpelledAs v (Text text) = string_of text ≡ v
IsSpelledAs v Simple = Unit {0}
IsSpelledAs v Other = Unit {0}
IsSpelledAs v Body = ⊥
IsSpelledAs v Encoded = ⊥

pub spelled_again : (bytes v : List ℕ) (start end : ℕ) (value : Value) → part bytes start end ≡ v → IsSpelledAs v value → spelled_value bytes start end value ≡ v
spelled_again bytes v start end (Text text) e h = h
spelled_again bytes v start end Simple e h = e
spelled_again bytes v start end Other e h = e
spelled_again bytes v start end Body e h = absurd h
spelled_again bytes v start end Encoded e h = absurd h

-- what is read of it is right, and is spelled as it was
pub record IsKept (name v : List ℕ) : Type 0 where
  pub fine : Fine v
  pub utf8 : IsUtf8 name
  pub value : Value
  pub is : value_at v name (whole fine.kind v) ≡ value
  pub same : IsSpelledAs v value
  pub right : (is_data_name name || is_attribute name value) ≡ true
  pub base : name ≡ codes "data_base64" → IsBaseValue value
  pub time : name ≡ codes "time" → IsTimeValue value
  pub some : bytes_eq name (codes "data") ≡ false → is_null fine.kind ≡ false

-- ---- a text

pub text_kept : (name text : List ℕ) → IsUtf8 name → IsUtf8 text → bytes_eq name (codes "data") ≡ false → (is_data_name name || is_attribute name (Text text)) ≡ true
    → (name ≡ codes "data_base64" → IsBase64 text) → (name ≡ codes "time" → IsTime text) → IsKept name (string_of text)
text_kept name text n u other right base time =
    let fine = text_fine_as text u in
    let v : List ℕ = string_of text in
    record {
      fine = fine.0;
      utf8 = n;
      value = Text text;
      is = ap (λ k. value_at v name (whole k v)) fine.1 ∙ ap (λ b. cond b Other (by_kind v (whole kinds.Text v) kinds.Text)) other ∙ ap Text (reads_back text u).same;
      same = refl;
      right = right;
      base = base;
      time = time;
      some = λ e. ap is_null fine.1;
    }

-- ---- data

not_itself : (B : Type 0) → true ≡ false → B
not_itself B h = let bad : ⊥ = cc in absurd bad

pub apart_names : (a b : List ℕ) → bytes_eq a b ≡ false → a ≡ b → ⊥
apart_names a b e h = not_itself ⊥ (sym ((bytes_eq-Decides a b).1 h) ∙ e)

pub data_kept : (v : List ℕ) → IsUtf8 (codes "data") → Fine v → IsKept (codes "data") v
data_kept v utf8 fine = record {
  fine = fine;
  utf8 = utf8;
  value = Other;
  is = refl;
  same = tt;
  right = refl;
  base = λ e. absurd (apart_names (codes "data") (codes "data_base64") refl e);
  time = λ e. absurd (apart_names (codes "data") (codes "time") refl e);
  some = λ e. not_itself _ e;
}

-- ---- a member of an event that was sent

abbrev IsSpan : Value → Type 0
IsSpan (Text text) = ⊥
IsSpan Simple = Unit {0}
IsSpan Other = Unit {0}
IsSpan Body = ⊥
IsSpan Encoded = ⊥

span_spelled : (v : List ℕ) (value : Value) → IsSpan value → IsSpelledAs v value
span_spelled v (Text text) h = absurd h
span_spelled v Simple h = tt
span_spelled v Other h = tt
span_spelled v Body h = h
span_spelled v Encoded h = h

span_is : (body : List ℕ) (a b : ℕ) (value : Value) → IsSpan value → spelled_value body a b value ≡ part body a b
span_is body a b (Text text) h = absurd h
span_is body a b Simple h = refl
span_is body a b Other h = refl
span_is body a b Body h = absurd h
span_is body a b Encoded h = absurd h

-- what is known of a member that was sent
record IsTold (name : List ℕ) (value : Value) : Type 0 where
  right : (is_data_name name || is_attribute name value) ≡ true
  base : name ≡ codes "data_base64" → IsBaseValue value
  time : name ≡ codes "time" → IsTimeValue value

span_kept : (body name : List ℕ) (s : Spot) → FineAs s.kind (value_bytes body s) → s.span.end - s.span.start ≡ length (value_bytes body s) → IsUtf8 name → is_null s.kind ≡ false → (value : Value) → value_at body name s ≡ value → IsSpan value → IsTold name value
    → IsKept name (value_bytes body s)
span_kept body name s fine long utf8 some value is span told = record {
  fine = fine.0;
  utf8 = utf8;
  value = value;
  is = ap (λ k. value_at (value_bytes body s) name (whole k (value_bytes body s))) fine.1 ∙ sym (value_alone body name (value_bytes body s) s refl long) ∙ is;
  same = span_spelled (value_bytes body s) value span;
  right = told.right;
  base = told.base;
  time = told.time;
  some = λ e. ap is_null fine.1 ∙ some;
}

number_span : (t : Bool) → IsSpan (cond t Simple Other)
number_span true = tt
number_span false = tt

-- by what it is
sent_kept : (body name : List ℕ) (s : Spot) (kind : Kind) (is_data : Bool) → bytes_eq name (codes "data") ≡ is_data → s.kind ≡ kind → FineAs s.kind (value_bytes body s) → s.span.end - s.span.start ≡ length (value_bytes body s) → IsUtf8 name → IsUtf8 (text_shown body s) → is_null s.kind ≡ false
    → value_at body name s ≡ cond is_data Other (by_kind body s kind) → IsTold name (cond is_data Other (by_kind body s kind)) → IsKept name (spelled_value body s.span.start s.span.end (cond is_data Other (by_kind body s kind)))
sent_kept body name s kind true d k fine long utf8 text some is told = span_kept body name s fine long utf8 some Other is tt told
sent_kept body name s kinds.Text false d k fine long utf8 text some is told = text_kept name (text_shown body s) utf8 text d told.right told.base told.time
sent_kept body name s kinds.Number false d k fine long utf8 text some is told =
    let span = number_span (is_int32 (value_bytes body s)) in
    subst (IsKept name) (sym (span_is body s.span.start s.span.end (number_value (value_bytes body s)) span)) (span_kept body name s fine long utf8 some (number_value (value_bytes body s)) is span told)
sent_kept body name s (kinds.Flag on) false d k fine long utf8 text some is told = span_kept body name s fine long utf8 some Simple is tt told
sent_kept body name s kinds.Null false d k fine long utf8 text some is told = span_kept body name s fine long utf8 some Other is tt told
sent_kept body name s kinds.List false d k fine long utf8 text some is told = span_kept body name s fine long utf8 some Other is tt told
sent_kept body name s kinds.Map false d k fine long utf8 text some is told = span_kept body name s fine long utf8 some Other is tt told

by_not : (b : Bool) → not b ≡ false → b ≡ true
by_not true h = refl
by_not false h = not_itself _ h

-- what the tests of a sent event say of its members
told_by : (body name : List ℕ) (children : Forest) (item : Item) → AreEvents (said body children) → said body children name ≡ Some item → item.name ≡ name → IsTold name item.value
told_by body name children item events e n = record {
  right = ap (λ (t : List ℕ). is_data_name t || is_attribute t item.value) (sym n) ∙ by_not _ (events.right name item e);
  base = λ h. events.base item (ap (said body children) (sym h) ∙ e);
  time = λ h. events.time item (ap (said body children) (sym h) ∙ e);
}

some_kept : (body name : List ℕ) (children : Forest) (spot : Spot) (v : List ℕ) (null : Bool) → IsFineAt body spot → IsUtf8 name → is_null spot.kind ≡ null → AreEvents (said body children)
    → said body children name ≡ option_map (item_at body name) (cond null None (Some spot)) → option_map (spelled body) (said body children name) ≡ Some v → IsKept name v
some_kept body name children spot v true fine utf8 null events e h = none_some v _ (sym (ap (option_map (spelled body)) e) ∙ h)
some_kept body name children spot v false fine utf8 null events e h =
    let item = item_at body name spot in
    let told = told_by body name children item events e refl in
    let kept = sent_kept body name spot spot.kind (bytes_eq name (codes "data")) refl refl fine.fine fine.long utf8 (IsUtf8-from_is_utf8 (text_shown body spot) fine.readable.0) null refl told in
    subst (IsKept name) (some_same (spelled body item) v (sym (ap (option_map (spelled body)) e) ∙ h)) kept

last_kept : (body name : List ℕ) (children : Forest) (last : Option Spot) (v : List ℕ) → EachOf (IsFineAt body) children → last_of body name children ≡ last → AreEvents (said body children) → option_map (spelled body) (said body children name) ≡ Some v → IsKept name v
last_kept body name children None v each e events h = none_some v _ (sym (ap (λ o. option_map (spelled body) (option_map (item_at body name) (unless_null o))) e) ∙ h)
last_kept body name children (Some spot) v each e events h =
    let p = found (IsFineAt body) body name children spot each e in
    some_kept body name children spot v (is_null spot.kind) p.0 (name_utf8 body name spot spot.name refl p.1 p.0.readable.1) refl events (ap (λ o. option_map (item_at body name) (unless_null o)) e) h

pub said_kept : (body name : List ℕ) (children : Forest) (v : List ℕ) → EachOf (IsFineAt body) children → AreEvents (said body children) → option_map (spelled body) (said body children name) ≡ Some v → IsKept name v
said_kept body name children v each events h = last_kept body name children (last_of body name children) v each refl events h
