-- An event that is sent again.
use Rattle.std.proofs.Common.{◌≡◌, ◌≤◌, ℕ, ◌+◌, ◌-◌, Bool, true, false, cond, ◌&&◌, ◌||◌, List, [], ◌∷◌, ◌++◌, length, Option, Some, None, refl, sym, ap, subst, ◌∙◌, arith, codes}
use Rattle.std.specs.Prelude.{IfSome, is_some, nat_le, not, option_map}
use Rattle.std.specs.Str.{IsUtf8, bytes_eq, is_utf8}
use Rattle.std.proofs.lemmas.Bool.{le-leb}
use Rattle.std.proofs.lemmas.Slice.Eq.{bytes_eq-Decides}
use Rattle.std.proofs.lemmas.Str.{IsUtf8-from_ascii, IsUtf8-from_is_utf8}
use Rattle.base64.specs.Engines.{standard}
use Rattle.base64.specs.GeneralPurpose.{IsBytes, encode_of}
use Rattle.base64.proofs.EngineFacts.{IsAscii-encode_of}
use Rattle.json_text.specs.declared.spot.Spot.{Spot}
use Rattle.json_text.specs.Forest.{Forest, empty, grows}
use Rattle.json_text.specs.Kind.TheVariants as kinds
use Rattle.json_text.specs.Faults.{IsClean}
use Rattle.json_text.specs.Grammar.{IsText}
use Rattle.json_text.specs.Shape.{value_bytes}
use Rattle.json_text.specs.MapTexts.{ShowsMembers, Written, map_bytes, map_of, member_spot, member_values, value_place}
use Rattle.json_text.proofs.Composing.{map_text, map_clean, map_shown}
use Rattle.cloud_events.specs.declared.item.Item.{Item}
use Rattle.cloud_events.specs.declared.item.Value.{Value}
use Rattle.cloud_events.specs.declared.sent.Sent.{Sent}
use Rattle.cloud_events.specs.declared.sent.EventErr.{EventErr}
use Rattle.cloud_events.specs.declared.sent.EventErr.TheVariants.{NoMemory}
use Rattle.cloud_events.specs.declared.media.Form.{Form}
use Rattle.cloud_events.specs.declared.media.Form.TheVariants.{Event, Json, Plain, Binary}
use Rattle.cloud_events.specs.Clock.{IsTimeOf}
use Rattle.cloud_events.specs.Event.{Attribute, NamesRise, encoded_data, event_bytes, filled_members, optional_member, set_members, spelled, spelled_value, table, text_data, text_member, trace_members, type_member, type_of, value_in}
use Rattle.cloud_events.specs.Items.{item_at, said, value_at}
use Rattle.cloud_events.specs.Judge.{AreEvents, IsBaseValue, IsTimeValue, is_attribute, is_data_name}
use Rattle.cloud_events.specs.Laws.{AreNotNull, AreTexts, ComesOnlyIf, IsComplete, IsSentAgain, IsSentAlike, KeepsMembers, without_null}
use Rattle.cloud_events.specs.Media.{form_of}
use Rattle.cloud_events.specs.Members.{is_null, last_of, or_else, unless_null}
use Rattle.cloud_events.specs.Wrapped.{IsGiven, IsRefused, IsSentEvent, IsWrapped}
use Rattle.cloud_events.proofs.Again.{AreFine, apart, are_low, are_written, first_low, holder_map, literal, same_bytes, shallow_by, tail_rises, type_utf8, writtens}
use Rattle.cloud_events.proofs.Causes.{no_cause}
use Rattle.cloud_events.proofs.Fine.{held_fine, root_fine, text_fine}
use Rattle.cloud_events.proofs.Moments.{moment_is_time}
use Rattle.cloud_events.proofs.Nulls.{null_is}
use Rattle.cloud_events.proofs.OneEvent.{none_behind, same_given, same_members, true_false}
use Rattle.cloud_events.proofs.Rereading.{IsKept, apart_names, data_kept, said_kept, spelled_again, text_kept, value_alone, whole}
use Rattle.cloud_events.proofs.Scanned.{none_some, some_same}
use Rattle.cloud_events.proofs.Wraps.{in_both}

-- ---- members that are kept

abbrev IsKeptAt : List ℕ → Option (List ℕ) → Type 0
IsKeptAt name None = Unit {0}
IsKeptAt name (Some value) = IsKept name value

abbrev AreKept : List Attribute → Type 0
AreKept [] = Unit {0}
AreKept (m ∷ members) = IsKept m.name m.value × AreKept members

kept_by : (b : Bool) (m : Attribute) (name : List ℕ) (later : Option (List ℕ)) → bytes_eq m.name name ≡ b → IsKept m.name m.value → IsKeptAt name later → IsKeptAt name (cond b (Some m.value) later)
kept_by true m name later e h k = subst (λ (n : List ℕ). IsKept n m.value) ((bytes_eq-Decides m.name name).0 e) h
kept_by false m name later e h k = k

kept_in : (name : List ℕ) (members : List Attribute) → AreKept members → IsKeptAt name (value_in name members)
kept_in name [] h = tt
kept_in name (m ∷ members) h = kept_by (bytes_eq m.name name) m name (value_in name members) refl h.0 (kept_in name members h.1)

kept_or : (name : List ℕ) (one other : Option (List ℕ)) → IsKeptAt name one → IsKeptAt name other → IsKeptAt name (or_else one other)
kept_or name None other h k = k
kept_or name (Some v) other h k = h

both_kept : (one other : List Attribute) → AreKept one → AreKept other → AreKept (one ++ other)
both_kept [] other h k = k
both_kept (m ∷ one) other h k = (h.0, both_kept one other h.1 k)

kept_some : (name v : List ℕ) (o : Option (List ℕ)) → IsKeptAt name o → o ≡ Some v → IsKept name v
kept_some name v None h e = none_some v _ e
kept_some name v (Some w) h e = subst (IsKept name) (some_same w v e) h

some_at : (name : List ℕ) (o : Option (List ℕ)) → ((v : List ℕ) → o ≡ Some v → IsKept name v) → IsKeptAt name o
some_at name None h = tt
some_at name (Some v) h = h v refl

-- ---- own texts

never : (B : Type 0) (a b : List ℕ) → bytes_eq a b ≡ false → a ≡ b → B
never B a b e h = absurd (apart_names a b e h)

long : (text : List ℕ) → 1 ≤ length text → nat_le 1 (length text) ≡ true
long text h = le-leb 1 (length text) h

optional_kept : (name : List ℕ) (o : Option (List ℕ)) → ((text : List ℕ) → o ≡ Some text → IsKept name (text_member name text).value) → AreKept (optional_member name o)
optional_kept name None h = tt
optional_kept name (Some text) h = (h text refl, tt)

if_some : {A : Type 0} (P : A → Type 0) (o : Option A) (x : A) → IfSome o P → o ≡ Some x → P x
if_some P None x h e = none_some x _ e
if_some P (Some y) x h e = subst P (some_same y x e) h

set_kept : (sent : Sent) (id : List ℕ) → AreTexts sent id → AreKept (set_members sent)
set_kept sent id texts = (
  text_kept (codes "pubsubname") sent.pubsub (literal (codes "pubsubname") refl) texts.pubsub refl refl (never _ _ _ refl) (never _ _ _ refl),
  (text_kept (codes "topic") sent.topic (literal (codes "topic") refl) texts.topic refl refl (never _ _ _ refl) (never _ _ _ refl), tt),
)

trace_kept : (sent : Sent) (id : List ℕ) → AreTexts sent id → AreKept (trace_members sent)
trace_kept sent id texts =
    let id_trace = optional_member (codes "traceid") sent.traceparent in
    let parent = optional_member (codes "traceparent") sent.traceparent in
    let state = optional_member (codes "tracestate") sent.tracestate in
    both_kept (id_trace ++ parent) state
    (both_kept id_trace parent
    (optional_kept (codes "traceid") sent.traceparent (λ text e. text_kept (codes "traceid") text (literal (codes "traceid") refl) (if_some IsUtf8 sent.traceparent text texts.traceparent e) refl refl (never _ _ _ refl) (never _ _ _ refl)))
    (optional_kept (codes "traceparent") sent.traceparent (λ text e. text_kept (codes "traceparent") text (literal (codes "traceparent") refl) (if_some IsUtf8 sent.traceparent text texts.traceparent e) refl refl (never _ _ _ refl) (never _ _ _ refl))))
    (optional_kept (codes "tracestate") sent.tracestate (λ text e. text_kept (codes "tracestate") text (literal (codes "tracestate") refl) (if_some IsUtf8 sent.tracestate text texts.tracestate e) refl refl (never _ _ _ refl) (never _ _ _ refl)))

filled_kept : (sent : Sent) (id time : List ℕ) (now : ℕ) → IsComplete sent id → IsTimeOf now time → AreKept (filled_members sent id time)
filled_kept sent id time now c at = (
  text_kept (codes "id") id (literal (codes "id") refl) c.texts.id_is refl (long id c.id_some) (never _ _ _ refl) (never _ _ _ refl),
  (
    text_kept (codes "source") sent.app (literal (codes "source") refl) c.texts.app refl (long sent.app c.app_some) (never _ _ _ refl) (never _ _ _ refl),
    (
      text_kept (codes "specversion") (codes "1.0") (literal (codes "specversion") refl) (literal (codes "1.0") refl) refl refl (never _ _ _ refl) (never _ _ _ refl),
      (
        text_kept (codes "time") time (literal (codes "time") refl) at.utf8 refl refl (never _ _ _ refl) (λ e. moment_is_time now time at),
        (
          text_kept (codes "type") (codes "com.dapr.event.sent") (literal (codes "type") refl) (literal (codes "com.dapr.event.sent") refl) refl refl (never _ _ _ refl) (never _ _ _ refl),
          trace_kept sent id c.texts,
        ),
      ),
    ),
  ),
)

type_some : (o : Option (List ℕ)) → IfSome o (λ value. 1 ≤ length value) → 1 ≤ length (type_of o)
type_some None h = omega arith
type_some (Some value) h = h

type_kept : (sent : Sent) (id : List ℕ) → IsComplete sent id → IsKept (codes "datacontenttype") (type_member sent).value
type_kept sent id c =
    let text = type_of sent.content_type in
    text_kept (codes "datacontenttype") text (literal (codes "datacontenttype") refl) (type_utf8 sent.content_type c.texts.content_type) refl (long text (type_some sent.content_type c.type_some)) (never _ _ _ refl) (never _ _ _ refl)

encoded_kept : (body : List ℕ) → IsBytes body → IsKept (codes "data_base64") (encoded_data body).value
encoded_kept body bytes =
    let text = encode_of standard body in
    text_kept (codes "data_base64") text (literal (codes "data_base64") refl) (IsUtf8-from_ascii text (IsAscii-encode_of standard body)) refl refl (λ e. (body, bytes, refl)) (never _ _ _ refl)

-- ---- what is given

data_is : IsUtf8 (codes "data")
data_is = literal (codes "data") refl

plain_kept : (body : List ℕ) (b : Bool) → is_utf8 body ≡ b → IsBytes body → IsKept (cond b (text_data body) (encoded_data body)).name (cond b (text_data body) (encoded_data body)).value
plain_kept body true e bytes = data_kept (text_data body).value data_is (text_fine body (IsUtf8-from_is_utf8 body e))
plain_kept body false e bytes = encoded_kept body bytes

given_kept : (form : Form) (sent : Sent) (id : List ℕ) (given : List ℕ → Option (List ℕ)) → IsComplete sent id → IsGiven form sent given → (name : List ℕ) → IsKeptAt name (given name)
given_kept Event sent id given c is name =
    let each = held_fine sent.body is.spot is.children is.later is.read (holder_map is.spot.kind is.is_map) in
    subst (IsKeptAt name) (sym (is.are name)) (some_at name (option_map (spelled sent.body) (said sent.body is.children name)) (λ v e. said_kept sent.body name is.children v each is.events e))
given_kept Json sent id given c is name =
    let low = first_low is.spot is.children is.later (shallow_by 63 (grows is.spot is.children is.later) is.shallow) in
    let json : Attribute = record { name = codes "data"; value = value_bytes sent.body is.spot } in
    subst (IsKeptAt name) (sym (is.are name)) (kept_in name (json ∷ type_member sent ∷ []) (data_kept json.value data_is (root_fine sent.body is.spot is.children is.later is.read low), (type_kept sent id c, tt)))
given_kept Plain sent id given c is name =
    subst (IsKeptAt name) (sym (is name)) (kept_in name (cond (is_utf8 sent.body) (text_data sent.body) (encoded_data sent.body) ∷ type_member sent ∷ []) (plain_kept sent.body (is_utf8 sent.body) refl c.bytes, (type_kept sent id c, tt)))
given_kept Binary sent id given c is name = subst (IsKeptAt name) (sym (is name)) (kept_in name (encoded_data sent.body ∷ type_member sent ∷ []) (encoded_kept sent.body c.bytes, (type_kept sent id c, tt)))

table_kept : (sent : Sent) (id : List ℕ) (now : ℕ) (event : List ℕ) (w : IsWrapped sent id now event) → IsComplete sent id → (name : List ℕ) → IsKeptAt name (table w.given sent id w.time name)
table_kept sent id now event w c name =
    kept_or name (value_in name (set_members sent)) (or_else (w.given name) (value_in name (filled_members sent id w.time))) (kept_in name (set_members sent) (set_kept sent id c.texts))
    (kept_or name (w.given name) (value_in name (filled_members sent id w.time)) (given_kept (form_of sent.content_type) sent id w.given c w.is name) (kept_in name (filled_members sent id w.time) (filled_kept sent id w.time now c w.moment)))

members_kept : (members : List Attribute) → NamesRise members → ((name v : List ℕ) → value_in name members ≡ Some v → IsKept name v) → AreKept members
members_kept [] rise h = tt
members_kept (m ∷ members) rise h = (
  h m.name m.value (ap (λ b. cond b (Some m.value) (value_in m.name members)) ((bytes_eq-Decides m.name m.name).1 refl)),
  members_kept members (tail_rises m members rise) (λ name v e. h name v (ap (λ b. cond b (Some m.value) (value_in name members)) (apart m members name v rise e) ∙ e)),
)

all_kept : (sent : Sent) (id : List ℕ) (now : ℕ) (event : List ℕ) (w : IsWrapped sent id now event) → IsComplete sent id → AreKept w.event_is.members
all_kept sent id now event w c =
    members_kept w.event_is.members w.event_is.rise (λ name v e. kept_some name v (table w.given sent id w.time name) (table_kept sent id now event w c name) (sym (w.event_is.are name) ∙ e))

-- ---- the members that are found

abbrev are_fine : (members : List Attribute) → AreKept members → AreFine members
are_fine [] h = tt
are_fine (m ∷ members) h = ((h.0.fine, h.0.utf8), are_fine members h.1)

-- the value of the member that has a name stands at a spot
record IsFound (event name v : List ℕ) (last : Option Spot) : Type 0 where
  kept : IsKept name v
  spot : Spot
  there : last ≡ Some spot
  bytes : value_bytes event spot ≡ v
  long_is : spot.span.end - spot.span.start ≡ length v
  kind_is : spot.kind ≡ kept.fine.kind

abbrev IsFoundAs : List ℕ → List ℕ → Option (List ℕ) → Option Spot → Type 0
IsFoundAs event name None last = last ≡ None
IsFoundAs event name (Some v) last = IsFound event name v last

or_none : {A : Type 0} (o : Option A) → or_else o None ≡ o
or_none None = refl
or_none (Some x) = refl

found_here : (event name : List ℕ) (m : Attribute) (kept : IsKept m.name m.value) (at : ℕ) (last : Option Spot) (rest_is : Option (List ℕ)) → rest_is ≡ None → IsFoundAs event name rest_is last
    → value_bytes event (member_spot at (record { name = m.name; bytes = m.value; kind = kept.fine.kind; children = kept.fine.children })) ≡ m.value → m.name ≡ name
    → IsFound event name m.value (or_else last (Some (member_spot at (record { name = m.name; bytes = m.value; kind = kept.fine.kind; children = kept.fine.children }))))
found_here event name m kept at last None e none shown n =
    let spot = member_spot at (record { name = m.name; bytes = m.value; kind = kept.fine.kind; children = kept.fine.children }) in
    subst (λ (t : List ℕ). IsFound event t m.value (or_else last (Some spot))) n
    (record { kept = kept; spot = spot; there = ap (λ o. or_else o (Some spot)) none; bytes = shown; long_is = omega arith; kind_is = refl })
found_here event name m kept at last (Some v) e none shown n = none_some v _ (sym e)

found_by : (event name : List ℕ) (m : Attribute) (members : List Attribute) (kept : IsKept m.name m.value) (at : ℕ) (last : Option Spot) (b : Bool) → bytes_eq m.name name ≡ b → NamesRise (m ∷ members) → IsFoundAs event name (value_in name members) last
    → value_bytes event (member_spot at (record { name = m.name; bytes = m.value; kind = kept.fine.kind; children = kept.fine.children })) ≡ m.value
    → IsFoundAs event name (cond b (Some m.value) (value_in name members)) (or_else last (cond b (Some (member_spot at (record { name = m.name; bytes = m.value; kind = kept.fine.kind; children = kept.fine.children }))) None))
found_by event name m members kept at last true e rise later shown = found_here event name m kept at last (value_in name members) (none_behind m members name rise e) later shown ((bytes_eq-Decides m.name name).0 e)
found_by event name m members kept at last false e rise later shown = subst (IsFoundAs event name (value_in name members)) (sym (or_none last)) later

found_in : (event name : List ℕ) (members : List Attribute) (kept : AreKept members) (at : ℕ) → NamesRise members → ShowsMembers event at (writtens members (are_fine members kept)) → IsFoundAs event name (value_in name members) (last_of event name (member_values at (writtens members (are_fine members kept))))
found_in event name [] kept at rise shown = refl
found_in event name (m ∷ members) kept at rise shown =
    let w : Written = record { name = m.name; bytes = m.value; kind = kept.0.fine.kind; children = kept.0.fine.children } in
    let next = value_place at w + length m.value + 1 in
    let last = last_of event name (member_values next (writtens members (are_fine members kept.1))) in
    let later = found_in event name members kept.1 next (tail_rises m members rise) shown.2 in
    subst (λ b. IsFoundAs event name (cond (bytes_eq m.name name) (Some m.value) (value_in name members)) (or_else last (cond b (Some (member_spot at w)) None))) (ap (λ (n : List ℕ). bytes_eq n name) (sym shown.0))
    (found_by event name m members kept.0 at last (bytes_eq m.name name) refl rise later shown.1)

-- ---- what is said of them

spot_value : (event name v : List ℕ) (last : Option Spot) (f : IsFound event name v last) → value_at event name f.spot ≡ f.kept.value
spot_value event name v last f = value_alone event name v f.spot f.bytes f.long_is ∙ ap (λ k. value_at v name (whole k v)) f.kind_is ∙ f.kept.is

-- an item is what the member of its name is
record IsTold (name : List ℕ) (found : Option (List ℕ)) (item : Item) : Type 0 where
  value : List ℕ
  there : found ≡ Some value
  kept : IsKept name value
  value_is : item.value ≡ kept.value
  name_is : item.name ≡ name

told_some : (event name v : List ℕ) (last : Option Spot) (item : Item) (f : IsFound event name v last) (null : Bool) → option_map (item_at event name) (cond null None (Some f.spot)) ≡ Some item → IsTold name (Some v) item
told_some event name v last item f true e = none_some item _ e
told_some event name v last item f false e =
    let same : item_at event name f.spot ≡ item = some_same (item_at event name f.spot) item e in
    record { value = v; there = refl; kept = f.kept; value_is = ap (λ (i : Item). i.value) (sym same) ∙ spot_value event name v last f; name_is = ap (λ (i : Item). i.name) (sym same) }

told : (event name : List ℕ) (o : Option (List ℕ)) (last : Option Spot) (item : Item) → IsFoundAs event name o last → option_map (item_at event name) (unless_null last) ≡ Some item → IsTold name o item
told event name None last item h e = none_some item _ (sym (ap (λ x. option_map (item_at event name) (unless_null x)) h) ∙ e)
told event name (Some v) last item h e = told_some event name v last item h (is_null h.spot.kind) (sym (ap (λ x. option_map (item_at event name) (unless_null x)) h.there) ∙ e)

spelled_kept : (event name v : List ℕ) (last : Option Spot) (f : IsFound event name v last) (null : Bool) → cond null None (Some v) ≡ option_map (spelled event) (option_map (item_at event name) (cond null None (Some f.spot)))
spelled_kept event name v last f true = refl
spelled_kept event name v last f false =
    ap Some (sym (ap (spelled_value event f.spot.span.start f.spot.span.end) (spot_value event name v last f) ∙ spelled_again event v f.spot.span.start f.spot.span.end f.kept.value f.bytes f.kept.same))

value_kept : (event name : List ℕ) (o : Option (List ℕ)) (last : Option Spot) → IsFoundAs event name o last → without_null o ≡ option_map (spelled event) (option_map (item_at event name) (unless_null last))
value_kept event name None last h = sym (ap (λ x. option_map (spelled event) (option_map (item_at event name) (unless_null x))) h)
value_kept event name (Some v) last h =
    let null : bytes_eq v (codes "null") ≡ is_null h.spot.kind = sym (ap is_null h.kind_is ∙ null_is v h.kept.fine) in
    ap (λ b. cond b None (Some v)) null ∙ spelled_kept event name v last h (is_null h.spot.kind) ∙ sym (ap (λ x. option_map (spelled event) (option_map (item_at event name) (unless_null x))) h.there)

-- ---- data stands once

some_is : {A : Type 0} (o : Option A) → is_some o ≡ true → (x : A) × (o ≡ Some x)
some_is None h = true_false _ (sym h)
some_is (Some x) h = (x, refl)

some_there : {A B : Type 0} (f : A → B) (o : Option A) (y : B) → option_map f o ≡ Some y → is_some o ≡ true
some_there f None y e = none_some y _ e
some_there f (Some x) y e = refl

both_true : (a b : Bool) → a ≡ true → b ≡ true → (a && b) ≡ true
both_true true b h k = k
both_true false b h k = h

not_both : (a b : Bool) → (a ≡ true → b ≡ true → ⊥) → (a && b) ≡ false
not_both false b h = refl
not_both true false h = refl
not_both true true h = absurd (h refl refl)

optional_none : (name own : List ℕ) (o : Option (List ℕ)) → bytes_eq own name ≡ false → value_in name (optional_member own o) ≡ None
optional_none name own None e = refl
optional_none name own (Some text) e = ap (λ b. cond b (Some (text_member own text).value) None) e

or_nones : (a b : Option (List ℕ)) → a ≡ None → b ≡ None → or_else a b ≡ None
or_nones a b p q = ap (λ x. or_else x b) p ∙ q

traces_are : (sent : Sent) (name : List ℕ) → value_in name (trace_members sent)
    ≡ or_else (or_else (value_in name (optional_member (codes "traceid") sent.traceparent)) (value_in name (optional_member (codes "traceparent") sent.traceparent))) (value_in name (optional_member (codes "tracestate") sent.tracestate))
traces_are sent name =
    let id = optional_member (codes "traceid") sent.traceparent in
    let parent = optional_member (codes "traceparent") sent.traceparent in
    let state = optional_member (codes "tracestate") sent.tracestate in
    in_both name (id ++ parent) state ∙ ap (λ o. or_else o (value_in name state)) (in_both name id parent)

trace_none : (sent : Sent) (name : List ℕ) → bytes_eq (codes "traceid") name ≡ false → bytes_eq (codes "traceparent") name ≡ false → bytes_eq (codes "tracestate") name ≡ false → value_in name (trace_members sent) ≡ None
trace_none sent name p q r =
    traces_are sent name
    ∙ or_nones _ _ (or_nones _ _ (optional_none name (codes "traceid") sent.traceparent p) (optional_none name (codes "traceparent") sent.traceparent q)) (optional_none name (codes "tracestate") sent.tracestate r)

given_only : (sent : Sent) (id time : List ℕ) (given : List ℕ → Option (List ℕ)) (name : List ℕ) → value_in name (set_members sent) ≡ None → value_in name (filled_members sent id time) ≡ None → table given sent id time name ≡ given name
given_only sent id time given name p q =
    ap (λ o. or_else o (or_else (given name) (value_in name (filled_members sent id time)))) p ∙ ap (or_else (given name)) q ∙ or_none (given name)

plain_once : (sent : Sent) (b : Bool) (v w : List ℕ) → value_in (codes "data") (cond b (text_data sent.body) (encoded_data sent.body) ∷ type_member sent ∷ []) ≡ Some v
    → value_in (codes "data_base64") (cond b (text_data sent.body) (encoded_data sent.body) ∷ type_member sent ∷ []) ≡ Some w → ⊥
plain_once sent true v w p q = none_some w _ q
plain_once sent false v w p q = none_some v _ p

given_once : (form : Form) (sent : Sent) (given : List ℕ → Option (List ℕ)) (v w : List ℕ) → IsGiven form sent given → given (codes "data") ≡ Some v → given (codes "data_base64") ≡ Some w → ⊥
given_once Event sent given v w is p q =
    let one = some_there (spelled sent.body) (said sent.body is.children (codes "data")) v (sym (is.are (codes "data")) ∙ p) in
    let other = some_there (spelled sent.body) (said sent.body is.children (codes "data_base64")) w (sym (is.are (codes "data_base64")) ∙ q) in
    true_false ⊥ (sym (both_true _ _ one other) ∙ is.events.one)
given_once Json sent given v w is p q = none_some w _ (sym (is.are (codes "data_base64")) ∙ q)
given_once Plain sent given v w is p q = plain_once sent (is_utf8 sent.body) v w (sym (is (codes "data")) ∙ p) (sym (is (codes "data_base64")) ∙ q)
given_once Binary sent given v w is p q = none_some v _ (sym (is (codes "data")) ∙ p)

data_once : (sent : Sent) (id : List ℕ) (now : ℕ) (event : List ℕ) (w : IsWrapped sent id now event) (v u : List ℕ) → value_in (codes "data") w.event_is.members ≡ Some v → value_in (codes "data_base64") w.event_is.members ≡ Some u → ⊥
data_once sent id now event w v u p q =
    given_once (form_of sent.content_type) sent w.given v u w.is
    (sym (w.event_is.are (codes "data") ∙ given_only sent id w.time w.given (codes "data") refl (trace_none sent (codes "data") refl refl refl)) ∙ p)
    (sym (w.event_is.are (codes "data_base64") ∙ given_only sent id w.time w.given (codes "data_base64") refl (trace_none sent (codes "data_base64") refl refl refl)) ∙ q)

-- ---- they are an event's

abbrev AllFound : List ℕ → List Attribute → Forest → Type 0
AllFound event members children = (name : List ℕ) → IsFoundAs event name (value_in name members) (last_of event name children)

found_some : (event : List ℕ) (members : List Attribute) (children : Forest) (name : List ℕ) → AllFound event members children → is_some (said event children name) ≡ true → (v : List ℕ) × (value_in name members ≡ Some v)
found_some event members children name all h =
    let x = some_is (said event children name) h in
    let t = told event name (value_in name members) (last_of event name children) x.0 (all name) x.1 in
    (t.value, t.there)

events_are : (event : List ℕ) (members : List Attribute) (children : Forest) → AllFound event members children → ((v u : List ℕ) → value_in (codes "data") members ≡ Some v → value_in (codes "data_base64") members ≡ Some u → ⊥) → AreEvents (said event children)
events_are event members children all once = record {
  right = λ name item e.
      (let t = told event name (value_in name members) (last_of event name children) item (all name) e in
      ap (λ (n : List ℕ). not (is_data_name n || is_attribute n item.value)) t.name_is ∙ ap (λ (x : Value). not (is_data_name name || is_attribute name x)) t.value_is ∙ ap not t.kept.right);
  one = not_both (is_some (said event children (codes "data"))) (is_some (said event children (codes "data_base64")))
      (λ p q. (let v = found_some event members children (codes "data") all p in let u = found_some event members children (codes "data_base64") all q in once v.0 u.0 v.1 u.1));
  base = λ item e. (let t = told event (codes "data_base64") (value_in (codes "data_base64") members) (last_of event (codes "data_base64") children) item (all (codes "data_base64")) e in subst IsBaseValue (sym t.value_is) (t.kept.base refl));
  time = λ item e. (let t = told event (codes "time") (value_in (codes "time") members) (last_of event (codes "time") children) item (all (codes "time")) e in subst IsTimeValue (sym t.value_is) (t.kept.time refl));
}

event_again : (sent : Sent) (id : List ℕ) (now : ℕ) (event : List ℕ) (w : IsWrapped sent id now event) → IsComplete sent id → IsSentEvent event (λ name. without_null (value_in name w.event_is.members))
event_again sent id now event w c =
    let members = w.event_is.members in
    let kept = all_kept sent id now event w c in
    let fine = are_fine members kept in
    let all = writtens members fine in
    let same : map_bytes all ≡ event = ap (λ (z : List ℕ). 123 ∷ (z ++ 125 ∷ [])) (same_bytes members fine) ∙ sym w.event_is.spelled in
    let children = member_values 1 all in
    let found : AllFound event members children = λ name. found_in event name members kept 1 w.event_is.rise (subst (λ b. ShowsMembers b 1 all) same (map_shown all)) in
    record {
      spot = whole kinds.Map (map_bytes all);
      children = children;
      later = empty;
      read = record {
        text = subst (λ b. IsText b (map_of all)) same (map_text all (are_written members fine));
        clean = subst (λ b. IsClean b (length b + 1)) same (map_clean all (are_written members fine) (are_low members fine));
      };
      is_map = refl;
      events = events_are event members children found (data_once sent id now event w);
      are = λ name. value_kept event name (value_in name members) (last_of event name children) (found name);
    }

given_again : (sent again : Sent) (id : List ℕ) (now : ℕ) (event : List ℕ) (s : IsSentAgain sent again id now event) → IsGiven (form_of again.content_type) again (λ name. without_null (value_in name s.wrapped.event_is.members))
given_again sent again id now event s =
    let given : List ℕ → Option (List ℕ) = λ name. without_null (value_in name s.wrapped.event_is.members) in
    subst (λ f. IsGiven f again given) (sym s.form) (subst (λ (b : List ℕ). IsSentEvent b given) (sym s.body) (event_again sent id now event s.wrapped s.complete))

pub accepted_again : (sent again : Sent) (id : List ℕ) (now : ℕ) (event : List ℕ) (error : EventErr) → IsSentAgain sent again id now event → IsRefused again error → error ≡ NoMemory
accepted_again sent again id now event error s refused =
    no_cause (form_of again.content_type) again (λ name. without_null (value_in name s.wrapped.event_is.members)) error (given_again sent again id now event s) refused

-- ---- what it becomes

abbrev own_members : Sent → List ℕ → List ℕ → List Attribute
own_members sent id time =
    text_member (codes "id") id ∷ text_member (codes "source") sent.app ∷ text_member (codes "specversion") (codes "1.0") ∷ text_member (codes "time") time ∷ text_member (codes "type") (codes "com.dapr.event.sent") ∷ []

some_by : (b : Bool) (x y : List ℕ) (one other : Option (List ℕ)) → is_some one ≡ is_some other → is_some (cond b (Some x) one) ≡ is_some (cond b (Some y) other)
some_by true x y one other e = refl
some_by false x y one other e = e

own_names : (name : List ℕ) (sent again : Sent) (id next time later : List ℕ) → is_some (value_in name (own_members again next later)) ≡ is_some (value_in name (own_members sent id time))
own_names name sent again id next time later =
    some_by (bytes_eq (codes "id") name) _ _ _ _ (some_by (bytes_eq (codes "source") name) _ _ _ _ (some_by (bytes_eq (codes "specversion") name) _ _ _ _ (some_by (bytes_eq (codes "time") name) _ _ _ _ (some_by (bytes_eq (codes "type") name) _ _ _ _ refl))))

some_first : (one other : Option (List ℕ)) → is_some one ≡ true → is_some (or_else one other) ≡ true
some_first None other h = true_false _ (sym h)
some_first (Some x) other h = refl

some_second : (one other : Option (List ℕ)) → is_some other ≡ true → is_some (or_else one other) ≡ true
some_second None other h = h
some_second (Some x) other h = refl

not_data : (name : List ℕ) (sent : Sent) (id time : List ℕ) (b : Bool) → bytes_eq name (codes "data") ≡ b → is_some (value_in name (own_members sent id time)) ≡ true → b ≡ false
not_data name sent id time true e h = true_false _ (sym (ap (λ (n : List ℕ). is_some (value_in n (own_members sent id time))) (sym ((bytes_eq-Decides name (codes "data")).0 e)) ∙ h))
not_data name sent id time false e h = refl

-- what each event has is there, and is not null
own_there : (sent : Sent) (id : List ℕ) (now : ℕ) (event : List ℕ) (w : IsWrapped sent id now event) → IsComplete sent id → (name : List ℕ) → is_some (value_in name (own_members sent id w.time)) ≡ true → is_some (without_null (value_in name w.event_is.members)) ≡ true
own_there sent id now event w c name h =
    let own = own_members sent id w.time in
    let filled = ap is_some (in_both name own (trace_members sent)) ∙ some_first (value_in name own) (value_in name (trace_members sent)) h in
    let all = ap is_some (w.event_is.are name) ∙ some_second (value_in name (set_members sent)) _ (some_second (w.given name) _ filled) in
    let v = some_is (value_in name w.event_is.members) all in
    let kept = kept_some name v.0 (table w.given sent id w.time name) (table_kept sent id now event w c name) (sym (w.event_is.are name) ∙ v.1) in
    let null : bytes_eq v.0 (codes "null") ≡ false = sym (null_is v.0 kept.fine) ∙ kept.some (not_data name sent id w.time (bytes_eq name (codes "data")) refl h) in
    ap (λ o. is_some (without_null o)) v.1 ∙ ap (λ b. is_some (cond b None (Some v.0))) null

without_own : (o own traces : Option (List ℕ)) → (is_some own ≡ true → is_some o ≡ true) → or_else o (or_else own traces) ≡ or_else o traces
without_own (Some x) own traces h = refl
without_own None None traces h = refl
without_own None (Some x) traces h = true_false _ (sym (h refl))

pub members_again : (sent again : Sent) (id next event other : List ℕ) (now later : ℕ) (one : IsSentAgain sent again id now event) (two : IsWrapped again next later other) → KeepsMembers again one.wrapped.event_is.members two.event_is.members
members_again sent again id next event other now later one two name =
    let w = one.wrapped in
    let kept = without_null (value_in name w.event_is.members) in
    let own = value_in name (own_members again next two.time) in
    two.event_is.are name
    ∙ ap (λ o. or_else (value_in name (set_members again)) (or_else o (value_in name (filled_members again next two.time)))) (same_given (form_of again.content_type) again two.given _ two.is (given_again sent again id now event one) name)
    ∙ ap (λ o. or_else (value_in name (set_members again)) (or_else kept o)) (in_both name (own_members again next two.time) (trace_members again))
    ∙ ap (or_else (value_in name (set_members again))) (without_own kept own (value_in name (trace_members again))
    (λ h. own_there sent id now event w one.complete name (sym (own_names name sent again id next w.time two.time) ∙ h)))

-- ---- where nothing changes

not_null_by : (b : Bool) (v : List ℕ) → bytes_eq v (codes "null") ≡ b → (v ≡ codes "null" → ⊥) → cond b None (Some v) ≡ Some v
not_null_by true v e h = absurd (h ((bytes_eq-Decides v (codes "null")).0 e))
not_null_by false v e h = refl

not_null : (o : Option (List ℕ)) → (o ≡ Some (codes "null") → ⊥) → without_null o ≡ o
not_null None h = refl
not_null (Some v) h = not_null_by (bytes_eq v (codes "null")) v refl (λ e. h (ap Some e))

second_none : (one other : Option (List ℕ)) → or_else one other ≡ None → other ≡ None
second_none None other e = e
second_none (Some x) other e = none_some x _ (sym e)

first_none : (one other : Option (List ℕ)) → or_else one other ≡ None → one ≡ None
first_none None other e = refl
first_none (Some x) other e = none_some x _ (sym e)

-- a trace field that did not come is not there
absent_by : (b : Bool) (x y : List ℕ) → cond b (Some x) None ≡ None → cond b (Some y) None ≡ None
absent_by true x y e = none_some x _ (sym e)
absent_by false x y e = refl

absent : (name own : List ℕ) (again before : Option (List ℕ)) → ComesOnlyIf again before → value_in name (optional_member own before) ≡ None → value_in name (optional_member own again) ≡ None
absent name own None before h e = refl
absent name own (Some x) None h e = true_false _ (sym h)
absent name own (Some x) (Some y) h e = absent_by (bytes_eq own name) (text_member own y).value (text_member own x).value e

traces_absent : (sent again : Sent) (name : List ℕ) → IsSentAlike again sent → value_in name (trace_members sent) ≡ None → value_in name (trace_members again) ≡ None
traces_absent sent again name alike e =
    let all = sym (traces_are sent name) ∙ e in
    let front = first_none _ _ all in
    traces_are again name
    ∙ or_nones _ _ (or_nones _ _ (absent name (codes "traceid") again.traceparent sent.traceparent alike.traceparent (first_none _ _ front)) (absent name (codes "traceparent") again.traceparent sent.traceparent alike.traceparent (second_none _ _ front)))
    (absent name (codes "tracestate") again.tracestate sent.tracestate alike.tracestate (second_none _ _ all))

unchanged : (set o traces behind : Option (List ℕ)) → o ≡ or_else set behind → (o ≡ None → traces ≡ None) → or_else set (or_else o traces) ≡ o
unchanged (Some x) o traces behind e h = sym e
unchanged None None traces behind e h = h refl
unchanged None (Some y) traces behind e h = refl

set_alike : (sent again : Sent) (name : List ℕ) → IsSentAlike again sent → value_in name (set_members again) ≡ value_in name (set_members sent)
set_alike sent again name alike = λ i. value_in name (text_member (codes "pubsubname") (alike.pubsub i) ∷ text_member (codes "topic") (alike.topic i) ∷ [])

pub stays : (sent again : Sent) (id next event other : List ℕ) (now later : ℕ) (one : IsSentAgain sent again id now event) → IsWrapped again next later other → IsSentAlike again sent → AreNotNull one.wrapped.event_is.members → other ≡ event
stays sent again id next event other now later one two alike some =
    let w = one.wrapped in
    let each : (name : List ℕ) → value_in name two.event_is.members ≡ value_in name w.event_is.members = λ name.
    (let o = value_in name w.event_is.members in
    let filled = value_in name (filled_members sent id w.time) in
    members_again sent again id next event other now later one two name
    ∙ ap (λ x. or_else x (or_else (without_null o) (value_in name (trace_members again)))) (set_alike sent again name alike)
    ∙ ap (λ x. or_else (value_in name (set_members sent)) (or_else x (value_in name (trace_members again)))) (not_null o (some name))
    ∙ unchanged (value_in name (set_members sent)) o (value_in name (trace_members again)) (or_else (w.given name) filled) (w.event_is.are name)
    (λ e. traces_absent sent again name alike
    (second_none (value_in name (own_members sent id w.time)) _ (sym (in_both name (own_members sent id w.time) (trace_members sent))
    ∙ second_none (w.given name) filled (second_none (value_in name (set_members sent)) _ (sym (w.event_is.are name) ∙ e)))))) in
    two.event_is.spelled ∙ ap event_bytes (same_members two.event_is.members w.event_is.members two.event_is.rise w.event_is.rise each) ∙ sym w.event_is.spelled
