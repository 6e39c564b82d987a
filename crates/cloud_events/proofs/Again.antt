-- An event is read again: its members are names in UTF-8 and values that are texts by themselves.
use Rattle.std.proofs.Common.{◌≡◌, ℕ, zero, suc, ◌+◌, ◌<◌, ◌≤◌, Bool, true, false, cond, ◌&&◌, List, [], ◌∷◌, ◌++◌, length, map, Option, Some, None, refl, sym, ap, subst, ◌∙◌, arith, codes}
use Rattle.std.specs.Prelude.{option_map, IfSome, nat_lt}
use Rattle.std.specs.Str.{IsAscii, IsUtf8, is_utf8, bytes_eq}
use Rattle.std.specs.List.{AllByRecursion}
use Rattle.std.specs.Ordering.{nat_cmp, is_eq}
use Rattle.std.specs.declared.cmp.Ordering.TheVariants.{Less}
use Rattle.std.specs.Cmp.Lexicographic.{slice_cmp}
use Rattle.std.proofs.lemmas.Cmp.{nat_list_cmp_total}
use Rattle.std.proofs.lemmas.Map.Text.{is_eq-slice_cmp}
use Rattle.std.proofs.lemmas.Slice.Eq.{bytes_eq-Decides}
use Rattle.std.proofs.lemmas.Bool.Decides.{nat_tests}
use Rattle.std.proofs.lemmas.Str.{IsUtf8-from_ascii, IsUtf8-from_is_utf8}
use Rattle.std.proofs.lemmas.Str.Ascii.{IsAscii-nil, IsAscii-cons}
use Rattle.base64.specs.Engines.{standard}
use Rattle.base64.specs.GeneralPurpose.{encode_of}
use Rattle.base64.proofs.EngineFacts.{IsAscii-encode_of}
use Rattle.json_text.specs.Kind.{Kind}
use Rattle.json_text.specs.Kind.TheVariants as kinds
use Rattle.json_text.specs.declared.spot.Spot.{Spot}
use Rattle.json_text.specs.Forest.{Forest, empty, grows}
use Rattle.json_text.specs.Grammar.{IsText}
use Rattle.json_text.specs.Faults.{IsClean}
use Rattle.json_text.specs.Shape.{is_holder, is_map, levels, nesting, value_bytes}
use Rattle.json_text.specs.Levels.{first_holder, or_else as spot_or}
use Rattle.json_text.specs.MapTexts.{IsDeep, IsWritten, ShowsMembers, Written, joined_bytes, map_bytes, map_of}
use Rattle.json_text.proofs.Composing.{map_text, map_clean, map_shown}
use Rattle.cloud_events.specs.declared.sent.Sent.{Sent}
use Rattle.cloud_events.specs.declared.media.Form.{Form}
use Rattle.cloud_events.specs.declared.media.Form.TheVariants.{Event, Json, Plain, Binary}
use Rattle.cloud_events.specs.Event.{Attribute, NamesRise, encoded_data, event_bytes, filled_members, joined, member_bytes, optional_member, set_members, spelled, table, text_data, text_member, type_member, type_of, value_in}
use Rattle.cloud_events.specs.Items.{said}
use Rattle.cloud_events.specs.Laws.{AreTexts, IsReadAs, attribute_in}
use Rattle.cloud_events.specs.Media.{form_of}
use Rattle.cloud_events.specs.Members.{or_else}
use Rattle.cloud_events.specs.Wrapped.{IsGiven, IsWrapped}
use Rattle.cloud_events.proofs.Fine.{Fine, held_fine, root_fine, said_fine, text_fine}
use Rattle.cloud_events.proofs.Scanned.{none_some, some_same}

-- ---- members that are fine

abbrev pub IsFineMember : Attribute → Type 0
IsFineMember member = Fine member.value × IsUtf8 member.name

abbrev pub AreFine : List Attribute → Type 0
AreFine [] = Unit {0}
AreFine (member ∷ members) = IsFineMember member × AreFine members

both_fine : (one other : List Attribute) → AreFine one → AreFine other → AreFine (one ++ other)
both_fine [] other h k = k
both_fine (m ∷ one) other h k = (h.0, both_fine one other h.1 k)

-- a value under a name
abbrev IsFineAt : List ℕ → Option (List ℕ) → Type 0
IsFineAt name None = Unit {0}
IsFineAt name (Some value) = Fine value × IsUtf8 name

fine_by : (b : Bool) (m : Attribute) (name : List ℕ) (rest : Option (List ℕ)) → bytes_eq m.name name ≡ b → IsFineMember m → IsFineAt name rest → IsFineAt name (cond b (Some m.value) rest)
fine_by true m name rest e h k = (h.0, subst IsUtf8 ((bytes_eq-Decides m.name name).0 e) h.1)
fine_by false m name rest e h k = k

fine_in : (name : List ℕ) (members : List Attribute) → AreFine members → IsFineAt name (value_in name members)
fine_in name [] h = tt
fine_in name (m ∷ members) h = fine_by (bytes_eq m.name name) m name (value_in name members) refl h.0 (fine_in name members h.1)

fine_or : (name : List ℕ) (one other : Option (List ℕ)) → IsFineAt name one → IsFineAt name other → IsFineAt name (or_else one other)
fine_or name None other h k = k
fine_or name (Some v) other h k = h

-- ---- own texts

abbrev all_ascii : List ℕ → Bool
all_ascii [] = true
all_ascii (byte ∷ bytes) = nat_lt byte 128 && all_ascii bytes

both_true : (a b : Bool) → (a && b) ≡ true → (a ≡ true) × (b ≡ true)
both_true true b h = (refl, h)
both_true false b h = absurd (let bad : ⊥ = cc in bad)

below : (byte : ℕ) → nat_lt byte 128 ≡ true → byte < 128
below byte h = grind (arith, nat_tests)

ascii : (bytes : List ℕ) → all_ascii bytes ≡ true → IsAscii bytes
ascii [] h = IsAscii-nil
ascii (byte ∷ bytes) h = let p = both_true (nat_lt byte 128) (all_ascii bytes) h in IsAscii-cons byte bytes (below byte p.0) (ascii bytes p.1)

pub literal : (bytes : List ℕ) → all_ascii bytes ≡ true → IsUtf8 bytes
literal bytes h = IsUtf8-from_ascii bytes (ascii bytes h)

own : (name text : List ℕ) → all_ascii name ≡ true → IsUtf8 text → IsFineMember (text_member name text)
own name text n utf8 = (text_fine text utf8, literal name n)

own_optional : (name : List ℕ) (o : Option (List ℕ)) → all_ascii name ≡ true → IfSome o IsUtf8 → AreFine (optional_member name o)
own_optional name None n h = tt
own_optional name (Some text) n h = (own name text n h, tt)

set_fine : (sent : Sent) (id : List ℕ) → AreTexts sent id → AreFine (set_members sent)
set_fine sent id texts = (own (codes "pubsubname") sent.pubsub refl texts.pubsub, (own (codes "topic") sent.topic refl texts.topic, tt))

filled_fine : (sent : Sent) (id time : List ℕ) → AreTexts sent id → IsUtf8 time → AreFine (filled_members sent id time)
filled_fine sent id time texts utf8 =
    let id_trace = optional_member (codes "traceid") sent.traceparent in
    let parent = optional_member (codes "traceparent") sent.traceparent in
    let state = optional_member (codes "tracestate") sent.tracestate in (
      own (codes "id") id refl texts.id_is,
      (
        own (codes "source") sent.app refl texts.app,
        (
          own (codes "specversion") (codes "1.0") refl (literal (codes "1.0") refl),
          (
            own (codes "time") time refl utf8,
            (
              own (codes "type") (codes "com.dapr.event.sent") refl (literal (codes "com.dapr.event.sent") refl),
              both_fine (id_trace ++ parent) state
                  (both_fine id_trace parent (own_optional (codes "traceid") sent.traceparent refl texts.traceparent) (own_optional (codes "traceparent") sent.traceparent refl texts.traceparent))
                  (own_optional (codes "tracestate") sent.tracestate refl texts.tracestate),
            ),
          ),
        ),
      ),
    )

pub type_utf8 : (o : Option (List ℕ)) → IfSome o IsUtf8 → IsUtf8 (type_of o)
type_utf8 None h = literal (codes "text/plain") refl
type_utf8 (Some value) h = h

type_fine : (sent : Sent) (id : List ℕ) → AreTexts sent id → IsFineMember (type_member sent)
type_fine sent id texts = own (codes "datacontenttype") (type_of sent.content_type) refl (type_utf8 sent.content_type texts.content_type)

encoded_fine : (body : List ℕ) → IsFineMember (encoded_data body)
encoded_fine body = own (codes "data_base64") (encode_of standard body) refl (IsUtf8-from_ascii (encode_of standard body) (IsAscii-encode_of standard body))

-- ---- what is given

pub holder_map : (kind : Kind) → is_map kind ≡ true → is_holder kind ≡ true
holder_map kinds.Map h = refl
holder_map kinds.List h = refl
holder_map kinds.Null h = h
holder_map kinds.Number h = h
holder_map kinds.Text h = h
holder_map (kinds.Flag on) h = h

none_or : (one other : Option Spot) → spot_or one other ≡ None → (one ≡ None) × (other ≡ None)
none_or None other h = (refl, h)
none_or (Some s) other h = none_some s _ (sym h)

no_holder : (b : Bool) (s : Spot) (rest : Option Spot) → cond b (Some s) rest ≡ None → (b ≡ false) × (rest ≡ None)
no_holder true s rest h = none_some s _ (sym h)
no_holder false s rest h = (refl, h)

level_low : (b : Bool) (n d : ℕ) → n ≤ d → levels b n ≤ suc d
level_low true n d h = omega (arith, h)
level_low false n d h = omega arith

-- where no list and no map stands inside so many others
pub shallow_by : (depth : ℕ) (values : Forest) → first_holder depth values ≡ None → nesting values ≤ depth
unfolding first_holder nesting
shallow_by depth empty h = omega arith
shallow_by zero (grows s c l) h =
    let p = no_holder (is_holder s.kind) s (first_holder zero l) h in
    omega (arith, ap (λ b. levels b (nesting c)) p.0, shallow_by zero l p.1)
shallow_by (suc depth) (grows s c l) h =
    let p = none_or (first_holder depth c) (first_holder (suc depth) l) h in
    omega (arith, level_low (is_holder s.kind) (nesting c) depth (shallow_by depth c p.0), shallow_by (suc depth) l p.1)

pub first_low : (s : Spot) (c l : Forest) → nesting (grows s c l) ≤ 63 → levels (is_holder s.kind) (nesting c) ≤ 63
unfolding nesting
first_low s c l h = omega (arith, h)

some_fine : (name : List ℕ) (o : Option (List ℕ)) → ((v : List ℕ) → o ≡ Some v → Fine v × IsUtf8 name) → IsFineAt name o
some_fine name None h = tt
some_fine name (Some v) h = h v refl

plain_fine : (body : List ℕ) (b : Bool) → is_utf8 body ≡ b → IsFineMember (cond b (text_data body) (encoded_data body))
plain_fine body true e = own (codes "data") body refl (IsUtf8-from_is_utf8 body e)
plain_fine body false e = encoded_fine body

given_fine : (form : Form) (sent : Sent) (id : List ℕ) (given : List ℕ → Option (List ℕ)) → AreTexts sent id → IsGiven form sent given → (name : List ℕ) → IsFineAt name (given name)
given_fine Event sent id given texts is name =
    let each = held_fine sent.body is.spot is.children is.later is.read (holder_map is.spot.kind is.is_map) in
    subst (IsFineAt name) (sym (is.are name)) (some_fine name (option_map (spelled sent.body) (said sent.body is.children name)) (λ v e. said_fine sent.body name is.children v each e))
given_fine Json sent id given texts is name =
    let low = first_low is.spot is.children is.later (shallow_by 63 (grows is.spot is.children is.later) is.shallow) in
    let json : Attribute = record { name = codes "data"; value = value_bytes sent.body is.spot } in
    subst (IsFineAt name) (sym (is.are name)) (fine_in name (json ∷ type_member sent ∷ []) ((root_fine sent.body is.spot is.children is.later is.read low, literal (codes "data") refl), (type_fine sent id texts, tt)))
given_fine Plain sent id given texts is name =
    subst (IsFineAt name) (sym (is name)) (fine_in name (cond (is_utf8 sent.body) (text_data sent.body) (encoded_data sent.body) ∷ type_member sent ∷ []) (plain_fine sent.body (is_utf8 sent.body) refl, (type_fine sent id texts, tt)))
given_fine Binary sent id given texts is name = subst (IsFineAt name) (sym (is name)) (fine_in name (encoded_data sent.body ∷ type_member sent ∷ []) (encoded_fine sent.body, (type_fine sent id texts, tt)))

table_fine : (sent : Sent) (id time : List ℕ) (given : List ℕ → Option (List ℕ)) → AreTexts sent id → IsUtf8 time → ((name : List ℕ) → IsFineAt name (given name)) → (name : List ℕ) → IsFineAt name (table given sent id time name)
table_fine sent id time given texts utf8 h name =
    fine_or name (value_in name (set_members sent)) (or_else (given name) (value_in name (filled_members sent id time))) (fine_in name (set_members sent) (set_fine sent id texts))
    (fine_or name (given name) (value_in name (filled_members sent id time)) (h name) (fine_in name (filled_members sent id time) (filled_fine sent id time texts utf8)))

-- ---- the members of an event

second_rises : (m x : Attribute) (members : List Attribute) → NamesRise (m ∷ x ∷ members) → NamesRise (m ∷ members)
second_rises m x [] h = tt
second_rises m x (y ∷ members) h = (nat_list_cmp_total.trans m.name x.name y.name h.0 h.1.0, h.1.1)

pub tail_rises : (m : Attribute) (members : List Attribute) → NamesRise (m ∷ members) → NamesRise members
tail_rises m [] h = tt
tail_rises m (x ∷ members) h = h.1

apart_by : (b : Bool) (m x : Attribute) (name : List ℕ) (v : List ℕ) (rest : Option (List ℕ)) → bytes_eq x.name name ≡ b → slice_cmp nat_cmp m.name x.name ≡ Less → cond b (Some x.value) rest ≡ Some v → (rest ≡ Some v → bytes_eq m.name name ≡ false) → bytes_eq m.name name ≡ false
apart_by true m x name v rest e less h later =
    let other : bytes_eq m.name x.name ≡ false = sym (is_eq-slice_cmp m.name x.name) ∙ ap is_eq less in
    ap (bytes_eq m.name) (sym ((bytes_eq-Decides x.name name).0 e)) ∙ other
apart_by false m x name v rest e less h later = later h

pub apart : (m : Attribute) (members : List Attribute) (name v : List ℕ) → NamesRise (m ∷ members) → value_in name members ≡ Some v → bytes_eq m.name name ≡ false
apart m [] name v rise h = none_some v _ h
apart m (x ∷ members) name v rise h =
    apart_by (bytes_eq x.name name) m x name v (value_in name members) refl rise.0 h (λ e. apart m members name v (second_rises m x members rise) e)

members_fine : (members : List Attribute) → NamesRise members → ((name v : List ℕ) → value_in name members ≡ Some v → Fine v × IsUtf8 name) → AreFine members
members_fine [] rise h = tt
members_fine (m ∷ members) rise h = (
  h m.name m.value (ap (λ b. cond b (Some m.value) (value_in m.name members)) ((bytes_eq-Decides m.name m.name).1 refl)),
  members_fine members (tail_rises m members rise) (λ name v e. h name v (ap (λ b. cond b (Some m.value) (value_in name members)) (apart m members name v rise e) ∙ e)),
)

fine_some : (name v : List ℕ) (o : Option (List ℕ)) → IsFineAt name o → o ≡ Some v → Fine v × IsUtf8 name
fine_some name v None h e = none_some v _ e
fine_some name v (Some w) h e = (subst Fine (some_same w v e) h.0, h.1)

-- ---- as they are written

abbrev pub writtens : (members : List Attribute) → AreFine members → List Written
writtens [] h = []
writtens (m ∷ members) h = record { name = m.name; bytes = m.value; kind = h.0.0.kind; children = h.0.0.children } ∷ writtens members h.1

same_members : (members : List Attribute) (h : AreFine members) → map attribute_in (writtens members h) ≡ members
same_members [] h = refl
same_members (m ∷ members) h = ap (λ ms. m ∷ ms) (same_members members h.1)

pub are_written : (members : List Attribute) (h : AreFine members) → AllByRecursion IsWritten (writtens members h)
are_written [] h = tt
are_written (m ∷ members) h = (record { utf8 = h.0.1; text = h.0.0.text; clean = h.0.0.clean }, are_written members h.1)

pub are_low : (members : List Attribute) (h : AreFine members) → AllByRecursion (IsDeep 63) (writtens members h)
are_low [] h = tt
are_low (m ∷ members) h = (h.0.0.low, are_low members h.1)

pub same_bytes : (members : List Attribute) (h : AreFine members) → joined_bytes (writtens members h) ≡ joined (map member_bytes members)
same_bytes [] h = refl
same_bytes (m ∷ []) h = refl
same_bytes (m ∷ n ∷ members) h = ap (λ (z : List ℕ). member_bytes m ++ 44 ∷ z) (same_bytes (n ∷ members) h.1)

read_as : (members : List Attribute) (event : List ℕ) → event ≡ event_bytes members → AreFine members → IsReadAs members event
read_as members event e h =
    let all = writtens members h in
    let same : map_bytes all ≡ event = ap (λ (z : List ℕ). 123 ∷ (z ++ 125 ∷ [])) (same_bytes members h) ∙ sym e in
    record {
      written = all;
      same = same_members members h;
      text = subst (λ b. IsText b (map_of all)) same (map_text all (are_written members h));
      clean = subst (λ b. IsClean b (length b + 1)) same (map_clean all (are_written members h) (are_low members h));
      shown = subst (λ b. ShowsMembers b 1 all) same (map_shown all);
    }

pub read_again : (sent : Sent) (id event : List ℕ) (now : ℕ) (w : IsWrapped sent id now event) → AreTexts sent id → IsReadAs w.event_is.members event
read_again sent id event now w texts =
    let fine = table_fine sent id w.time w.given texts w.moment.utf8 (given_fine (form_of sent.content_type) sent id w.given texts w.is) in
    read_as w.event_is.members event w.event_is.spelled
    (members_fine w.event_is.members w.event_is.rise (λ name v e. fine_some name v (table w.given sent id w.time name) (fine name) (sym (w.event_is.are name) ∙ e)))
