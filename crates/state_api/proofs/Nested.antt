-- How deep the values of a transaction are nested.
use Rattle.std.proofs.Common.{◌≡◌, ◌<◌, ◌≤◌, ◌+◌, ◌-◌, ℕ, suc, max, Bool, true, false, cond, nat_le, List, [], ◌∷◌, length, take, drop, Option, Some, None, refl, sym, ap, subst, ◌∙◌, arith, codes, length-drop}
use Rattle.std.specs.Prelude.{Result, Ok, Err, All}
use Rattle.std.proofs.lemmas.List.{length-take-le}
use Rattle.std.proofs.lemmas.List.Elements.{All-cons, All-head, All-tail}
use Rattle.json_lexemes.specs.declared.lexeme.Lexeme.TheVariants.{Letters as letters}
use Rattle.json_lexemes.specs.Lexeme.{begins, ends, next}
use Rattle.json_lexemes.proofs.Courses.{here as stop, on as go}
use Rattle.json_text.specs.Kind.{Kind}
use Rattle.json_text.specs.Kind.TheVariants as kinds
use Rattle.json_text.specs.declared.part.Part.TheVariants.{Start as first_part}
use Rattle.json_text.specs.declared.spot.Spot.{Spot}
use Rattle.json_text.specs.Forest.{Forest, empty, grows, one}
use Rattle.json_text.specs.Grammar.{IsText}
use Rattle.json_text.specs.Faults.{IsClean}
use Rattle.json_text.specs.Shape.{AreInRow, is_holder, is_list, is_map, levels, nesting, value_bytes}
use Rattle.json_text.specs.Moved.{alone, back, moved}
use Rattle.json_text.proofs.Clear.{c_word, c_finish, clear_clean, clear_completes, text_clear}
use Rattle.json_text.proofs.Depths.{low_text}
use Rattle.json_text.proofs.Moves.{IsClearAlone, IsClearText, all_alone, alone_low, nesting_moved, takes_first}
use Rattle.json_text.proofs.Shapes.{text_in_row}
use Rattle.json_text.proofs.ValueFacts.{EachValue}
use Rattle.state_core.specs.declared.command.Prefix.{Prefix}
use Rattle.state_core.specs.declared.command.Item.{Item}
use Rattle.state_core.specs.declared.command.Op.{Op}
use Rattle.state_core.specs.declared.command.Cmd.{Cmd}
use Rattle.state_core.specs.declared.command.Cmd.TheVariants.{Transact}
use Rattle.state_api.specs.declared.what.What.{What}
use Rattle.state_api.specs.declared.what.What.TheVariants.{Shape, TooMany}
use Rattle.state_api.specs.declared.raw.RawItem.{RawItem}
use Rattle.state_api.specs.declared.raw.RawOp.{RawOp}
use Rattle.state_api.specs.Given.{followed, provided, each}
use Rattle.state_api.specs.Values.{Value, has_name, held_in, is_null, last_named, member, needed, optional, or_else, unless_null, values_in}
use Rattle.state_api.specs.Words.{etag_of, mode_of, stored_key, ttl_of}
use Rattle.state_api.specs.Raw.{bytes_of, concurrency_in, item_in, item_members, list_in, list_of, listed_in, op_in, request_in, ttl_text_in}
use Rattle.state_api.specs.Asked.{BodyAsks, bad, deep, text, few, op_of, op_with, transact_in, upserts}
use Rattle.state_api.specs.Laws.{IsNested, IsNestedOp}
use Rattle.state_api.proofs.Following.{in_ok, all_none}
use Rattle.state_api.proofs.Keyed.{err_ok, followed_ok, provided_ok}
use Rattle.state_api.proofs.Members.{none_some}

-- ---- values of a text

-- its bytes are a text by themselves, as are those of all that it holds, and it is nested so deep at most
record Whole (bytes : List ℕ) (most : ℕ) (value : Value) : Type 0 where
  clear : IsClearAlone bytes value.spot value.children
  held : EachValue (IsClearAlone bytes) value.children
  some : value.spot.span.start < value.spot.span.end
  within : value.spot.span.end ≤ length bytes
  row : AreInRow (is_map value.spot.kind) (value.spot.span.start + 1) (value.spot.span.end - 1) value.children
  low : levels (is_holder value.spot.kind) (nesting value.children) ≤ most

abbrev AreWhole : List ℕ → ℕ → List Value → Type 0
AreWhole bytes most [] = Unit {0}
AreWhole bytes most (value ∷ values) = Whole bytes most value × AreWhole bytes most values

row_whole : (bytes : List ℕ) (most : ℕ) (names : Bool) (from to : ℕ) (values : Forest) → to ≤ length bytes → nesting values ≤ most → AreInRow names from to values → EachValue (IsClearAlone bytes) values → AreWhole bytes most (values_in values)
unfolding nesting
row_whole bytes most names from to empty le low row clear = tt
row_whole bytes most names from to (grows s c l) le low row clear = (
  record { clear = clear.0; held = clear.1; some = row.0.some; within = omega (arith, le, row.0.high); row = row.1; low = omega (arith, low) },
  row_whole bytes most names s.span.end to l le (omega (arith, low)) row.2 clear.2,
)

-- what a list or a map holds is nested one level less
held_whole : (bytes : List ℕ) (most : ℕ) (value : Value) → is_holder value.spot.kind ≡ true → Whole bytes (most + 1) value → AreWhole bytes most (held_in value)
held_whole bytes most value holds whole =
    row_whole bytes most (is_map value.spot.kind) (value.spot.span.start + 1) (value.spot.span.end - 1) value.children (omega (arith, whole.within)) (omega (arith, whole.low, ap (λ b. levels b (nesting value.children)) holds)) whole.row whole.held

root_whole : (bytes : List ℕ) (spot : Spot) (children later : Forest) → IsText bytes (grows spot children later) → IsClean bytes (length bytes + 1) → Whole bytes 64 (record { spot = spot; children = children })
unfolding nesting
root_whole bytes spot children later is clean =
    let row = text_in_row bytes (grows spot children later) is in
    let clear = all_alone bytes (grows spot children later) (text_clear bytes (grows spot children later) is clean) in
    record { clear = clear.0; held = clear.1; some = row.0.some; within = row.0.high; row = row.1; low = omega (arith, low_text bytes (grows spot children later) is clean) }

-- its bytes
whole_nested : (bytes : List ℕ) (most : ℕ) (value : Value) → most ≤ 64 → Whole bytes most value → IsNested most (value_bytes bytes value.spot)
whole_nested bytes most value small whole =
    let from = value.spot.span.start in
    let to = value.spot.span.end in
    let own : List ℕ = value_bytes bytes value.spot in
    let inside : to - from ≤ length (drop from bytes) = omega (arith, length-drop from bytes, whole.some, whole.within) in
    let nothing : from - from ≡ 0 = omega arith in
    let all : to - from ≡ length own = sym (length-take-le (to - from) (drop from bytes) inside) in
    let is : IsText own (alone value.spot value.children) = clear_completes None first_part 0 (length own) own [] (alone value.spot value.children) whole.clear in
    record {
      kind = value.spot.kind;
      children = moved (back from) value.children;
      text = subst (λ (m : ℕ). IsText own (one (record { kind = value.spot.kind; span = record { start = 0; end = m }; name = None }) (moved (back from) value.children))) all
          (subst (λ (z : ℕ). IsText own (one (record { kind = value.spot.kind; span = record { start = z; end = to - from }; name = None }) (moved (back from) value.children))) nothing is);
      clean = clear_clean own (alone value.spot value.children) whole.clear (alone_low value.spot value.children (omega (arith, small, whole.low)));
      low = omega (arith, whole.low, ap (levels (is_holder value.spot.kind)) (nesting_moved (back from) value.children));
    }

-- the value that is absent is null
null_clear : IsClearText (codes "null") (one (record { kind = kinds.Null; span = record { start = 0; end = 4 }; name = None }) empty)
unfolding begins next ends
null_clear = c_word {last = letters kinds.Null 4} takes_first refl (go refl refl (go refl refl (go refl refl stop))) refl refl (c_finish refl)

low_null : nesting (one (record { kind = kinds.Null; span = record { start = 0; end = 4 }; name = None }) empty) ≤ 64
unfolding nesting
low_null = omega arith

null_nested : (most : ℕ) → IsNested most (codes "null")
unfolding nesting
null_nested most =
    let values : Forest = one (record { kind = kinds.Null; span = record { start = 0; end = 4 }; name = None }) empty in
    record { kind = kinds.Null; children = empty; text = clear_completes None first_part 0 4 (codes "null") [] values null_clear; clean = clear_clean (codes "null") values null_clear low_null; low = omega arith }

-- ---- members

found_or : (bytes : List ℕ) (most : ℕ) (rest : Option Value) (own : Bool) (value found : Value) → ((v : Value) → rest ≡ Some v → Whole bytes most v) → Whole bytes most value → or_else rest (cond own (Some value) None) ≡ Some found → Whole bytes most found
found_or bytes most (Some v) own value found later whole is = later found is
found_or bytes most None true value found later whole is = let same : value ≡ found = cc in subst (Whole bytes most) same whole
found_or bytes most None false value found later whole is = none_some found _ is

last_whole : (bytes name : List ℕ) (most : ℕ) (values : List Value) (found : Value) → AreWhole bytes most values → last_named bytes name values ≡ Some found → Whole bytes most found
last_whole bytes name most [] found whole is = none_some found _ is
last_whole bytes name most (value ∷ values) found whole is =
    found_or bytes most (last_named bytes name values) (has_name bytes value.spot.name name) value found (λ v e. last_whole bytes name most values v whole.1 e) whole.0 is

there_is : (found : Option Value) (value : Value) → unless_null found ≡ Some value → found ≡ Some value
there_is None value is = none_some value _ is
there_is (Some v) value is = by (is_null v.spot.kind) is
  where
    by : (null : Bool) → cond null None (Some v) ≡ Some value → Some v ≡ Some value
    by true is = none_some value _ is
    by false is = is

member_whole : (bytes name : List ℕ) (most : ℕ) (value found : Value) → is_holder value.spot.kind ≡ true → Whole bytes (most + 1) value → member bytes name value ≡ Some found → Whole bytes most found
member_whole bytes name most value found holds whole is =
    last_whole bytes name most (held_in value) found (held_whole bytes most value holds whole) (there_is (last_named bytes name (held_in value)) found is)

map_holds : (kind : Kind) → is_map kind ≡ true → is_holder kind ≡ true
map_holds kinds.Map is = refl
map_holds kinds.List is = refl
map_holds kinds.Null is = is
map_holds (kinds.Flag on) is = is
map_holds kinds.Number is = is
map_holds kinds.Text is = is

list_holds : (kind : Kind) → is_list kind ≡ true → is_holder kind ≡ true
list_holds kinds.List is = refl
list_holds kinds.Map is = refl
list_holds kinds.Null is = is
list_holds (kinds.Flag on) is = is
list_holds kinds.Number is = is
list_holds kinds.Text is = is

-- ---- items and operations

value_nested : (bytes : List ℕ) (values : List Value) (found : Option Value) → last_named bytes (codes "value") values ≡ found → AreWhole bytes 60 values → IsNested 60 (bytes_of bytes found)
value_nested bytes values None is whole = null_nested 60
value_nested bytes values (Some value) is whole = whole_nested bytes 60 value (omega arith) (last_whole bytes (codes "value") 60 values value whole is)

item_nested : (bytes : List ℕ) (value : Value) (raw : RawItem) → Whole bytes 61 value → item_in bytes value ≡ Ok raw → IsNested 60 raw.value
item_nested bytes value raw whole is =
    let map = provided_ok (is_map value.spot.kind) Shape (item_members bytes value) raw is in
    let found = last_named bytes (codes "value") (held_in value) in
    let key = followed_ok (needed bytes (member bytes (codes "key") value)) (λ key.
    followed (optional bytes (member bytes (codes "etag") value)) (λ etag.
    followed (concurrency_in bytes (member bytes (codes "options") value)) (λ concurrency.
    followed (ttl_text_in bytes (member bytes (codes "metadata") value)) (λ ttl.
    Ok (record { key = key; value = bytes_of bytes found; etag = etag; concurrency = concurrency; ttl = ttl }))))) raw map.1 in
    let etag = followed_ok (optional bytes (member bytes (codes "etag") value)) (λ etag.
    followed (concurrency_in bytes (member bytes (codes "options") value)) (λ concurrency.
    followed (ttl_text_in bytes (member bytes (codes "metadata") value)) (λ ttl.
    Ok (record { key = key.0; value = bytes_of bytes found; etag = etag; concurrency = concurrency; ttl = ttl })))) raw key.2 in
    let concurrency = followed_ok (concurrency_in bytes (member bytes (codes "options") value)) (λ concurrency.
    followed (ttl_text_in bytes (member bytes (codes "metadata") value)) (λ ttl.
    Ok (record { key = key.0; value = bytes_of bytes found; etag = etag.0; concurrency = concurrency; ttl = ttl }))) raw etag.2 in
    let ttl = followed_ok (ttl_text_in bytes (member bytes (codes "metadata") value)) (λ ttl.
    Ok (record { key = key.0; value = bytes_of bytes found; etag = etag.0; concurrency = concurrency.0; ttl = ttl })) raw concurrency.2 in
    subst (λ (r : RawItem). IsNested 60 r.value) (in_ok _ raw ttl.2)
    (value_nested bytes (held_in value) found refl (held_whole bytes 60 value (map_holds value.spot.kind map.0) whole))

request_nested : (bytes : List ℕ) (value : Value) (request : Option Value) (raw : RawItem) → is_map value.spot.kind ≡ true → Whole bytes 62 value → member bytes (codes "request") value ≡ request → request_in bytes request ≡ Ok raw → IsNested 60 raw.value
request_nested bytes value None raw map whole found is = err_ok Shape raw _ is
request_nested bytes value (Some request) raw map whole found is = item_nested bytes request raw (member_whole bytes (codes "request") 61 value request (map_holds value.spot.kind map) whole found) is

raw_nested : (bytes : List ℕ) (value : Value) (raw : RawOp) → Whole bytes 62 value → op_in bytes value ≡ Ok raw → IsNested 60 raw.item.value
raw_nested bytes value raw whole is =
    let map = provided_ok (is_map value.spot.kind) Shape (
    followed (needed bytes (member bytes (codes "operation") value)) (λ operation.
    followed (request_in bytes (member bytes (codes "request") value)) (λ item.
    Ok (record { operation = operation; item = item })))) raw is in
    let operation = followed_ok (needed bytes (member bytes (codes "operation") value)) (λ operation.
    followed (request_in bytes (member bytes (codes "request") value)) (λ item.
    Ok (record { operation = operation; item = item }))) raw map.1 in
    let item = followed_ok (request_in bytes (member bytes (codes "request") value)) (λ item.
    Ok (record { operation = operation.0; item = item })) raw operation.2 in
    subst (λ (r : RawOp). IsNested 60 r.item.value) (in_ok _ raw item.2)
    (request_nested bytes value (member bytes (codes "request") value) item.0 map.0 whole refl item.1)

with_nested : (upsert : Bool) (item : Item) → IsNested 60 item.value → IsNestedOp 60 (op_with upsert item)
with_nested true item nested = nested
with_nested false item nested = tt

op_nested : (prefix : Prefix) (raw : RawOp) (op : Op) → IsNested 60 raw.item.value → op_of prefix raw ≡ Ok op → IsNestedOp 60 op
op_nested prefix raw op nested is =
    let key = followed_ok (stored_key prefix raw.item.key) (λ key.
    followed (mode_of raw.item.concurrency) (λ mode.
    followed (upserts raw.operation) (λ is_upsert.
    followed (ttl_of raw.item.ttl) (λ ttl.
    Ok (op_with is_upsert (record { key = key; value = raw.item.value; etag = etag_of raw.item.etag; mode = mode; ttl = ttl })))))) op is in
    let mode = followed_ok (mode_of raw.item.concurrency) (λ mode.
    followed (upserts raw.operation) (λ is_upsert.
    followed (ttl_of raw.item.ttl) (λ ttl.
    Ok (op_with is_upsert (record { key = key.0; value = raw.item.value; etag = etag_of raw.item.etag; mode = mode; ttl = ttl }))))) op key.2 in
    let upsert = followed_ok (upserts raw.operation) (λ is_upsert.
    followed (ttl_of raw.item.ttl) (λ ttl.
    Ok (op_with is_upsert (record { key = key.0; value = raw.item.value; etag = etag_of raw.item.etag; mode = mode.0; ttl = ttl })))) op mode.2 in
    let ttl = followed_ok (ttl_of raw.item.ttl) (λ ttl.
    Ok (op_with upsert.0 (record { key = key.0; value = raw.item.value; etag = etag_of raw.item.etag; mode = mode.0; ttl = ttl }))) op upsert.2 in
    subst (IsNestedOp 60) (in_ok _ op ttl.2) (with_nested upsert.0 (record { key = key.0; value = raw.item.value; etag = etag_of raw.item.etag; mode = mode.0; ttl = ttl.0 }) nested)

-- ---- lists of them

raws_nested : (bytes : List ℕ) (values : List Value) (raws : List RawOp) → AreWhole bytes 62 values → each (op_in bytes) values ≡ Ok raws → All (λ (raw : RawOp). IsNested 60 raw.item.value) raws
unfolding each
raws_nested bytes [] raws whole is = subst (λ (rs : List RawOp). All (λ (raw : RawOp). IsNested 60 raw.item.value) rs) (in_ok [] raws is) (all_none _)
raws_nested bytes (value ∷ values) raws whole is =
    let head = followed_ok (op_in bytes value) (λ y. followed (each (op_in bytes) values) (λ ys. Ok (y ∷ ys))) raws is in
    let tail = followed_ok (each (op_in bytes) values) (λ ys. Ok (head.0 ∷ ys)) raws head.2 in
    subst (λ (rs : List RawOp). All (λ (raw : RawOp). IsNested 60 raw.item.value) rs) (in_ok (head.0 ∷ tail.0) raws tail.2)
    (All-cons (λ (raw : RawOp). IsNested 60 raw.item.value) head.0 tail.0 (raw_nested bytes value head.0 whole.0 head.1) (raws_nested bytes values tail.0 whole.1 tail.1))

ops_nested : (prefix : Prefix) (raws : List RawOp) (ops : List Op) → All (λ (raw : RawOp). IsNested 60 raw.item.value) raws → each (op_of prefix) raws ≡ Ok ops → All (IsNestedOp 60) ops
unfolding each
ops_nested prefix [] ops nested is = subst (All (IsNestedOp 60)) (in_ok [] ops is) (all_none _)
ops_nested prefix (raw ∷ raws) ops nested is =
    let head = followed_ok (op_of prefix raw) (λ y. followed (each (op_of prefix) raws) (λ ys. Ok (y ∷ ys))) ops is in
    let tail = followed_ok (each (op_of prefix) raws) (λ ys. Ok (head.0 ∷ ys)) ops head.2 in
    subst (All (IsNestedOp 60)) (in_ok (head.0 ∷ tail.0) ops tail.2)
    (All-cons (IsNestedOp 60) head.0 tail.0 (op_nested prefix raw head.0 (All-head (λ (raw : RawOp). IsNested 60 raw.item.value) raw raws nested) head.1) (ops_nested prefix raws tail.0 (All-tail (λ (raw : RawOp). IsNested 60 raw.item.value) raw raws nested) tail.1))

listed_nested : (bytes : List ℕ) (value : Value) (listed : Option Value) (raws : List RawOp) → is_map value.spot.kind ≡ true → Whole bytes 64 value → member bytes (codes "operations") value ≡ listed → list_of (op_in bytes) listed ≡ Ok raws → All (λ (raw : RawOp). IsNested 60 raw.item.value) raws
listed_nested bytes value None raws map whole found is = err_ok Shape raws _ is
listed_nested bytes value (Some list) raws map whole found is =
    let items = provided_ok (is_list list.spot.kind) Shape (each (op_in bytes) (held_in list)) raws is in
    raws_nested bytes (held_in list) raws (held_whole bytes 62 list (list_holds list.spot.kind items.0) (member_whole bytes (codes "operations") 63 value list (map_holds value.spot.kind map) whole found)) items.1

same_ops : (one other : List Op) (now later : ℕ) → ◌≡◌ {A = Result Cmd What} (Ok (Transact one now)) (Ok (Transact other later)) → one ≡ other
same_ops one other now later h = cc

transaction_nested : (prefix : Prefix) (bytes : List ℕ) (value : Value) (ops : List Op) → Whole bytes 64 value → transact_in prefix bytes value ≡ Ok (Transact ops 0) → All (IsNestedOp 60) ops
transaction_nested prefix bytes value ops whole is =
    let raws = followed_ok (listed_in (op_in bytes) bytes (codes "operations") value) (λ raws. followed (few (op_of prefix) raws) (λ ops. Ok (Transact ops 0))) (Transact ops 0) is in
    let asked = followed_ok (few (op_of prefix) raws.0) (λ ops. Ok (Transact ops 0)) (Transact ops 0) raws.2 in
    let limit = provided_ok (nat_le (length raws.0) 1024) TooMany (each (op_of prefix) raws.0) asked.0 asked.1 in
    let map = provided_ok (is_map value.spot.kind) Shape (list_of (op_in bytes) (member bytes (codes "operations") value)) raws.0 raws.1 in
    subst (All (IsNestedOp 60)) (same_ops asked.0 ops 0 0 asked.2)
    (ops_nested prefix raws.0 asked.0 (listed_nested bytes value (member bytes (codes "operations") value) raws.0 map.0 whole refl map.1) limit.1)

pub body_nested : (prefix : Prefix) (body : List ℕ) (ops : List Op) → BodyAsks (transact_in prefix) body (Ok (Transact ops 0)) → All (IsNestedOp 60) ops
body_nested prefix body ops (bad at first is) = err_ok _ _ _ (sym is)
body_nested prefix body ops (deep at first is) = err_ok _ _ _ (sym is)
body_nested prefix body ops (text spot children later tree clean is) = transaction_nested prefix body (record { spot = spot; children = children }) ops (root_whole body spot children later tree clean) (sym is)
