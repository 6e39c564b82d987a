-- From what is read to an event, and to a refusal.
use Rattle.std.proofs.Common.{◌≡◌, inl, inr, ℕ, ◌+◌, ◌<◌, Bool, true, false, cond, List, [], ◌∷◌, ◌++◌, length, map, fold, Option, Some, None, refl, sym, ap, subst, ◌∙◌, codes, arith}
use Rattle.std.specs.Prelude.{option_map}
use Rattle.std.specs.Str.{bytes_eq, is_utf8}
use Rattle.std.proofs.lemmas.List.{map-append}
use Rattle.json_text.specs.declared.error.JsonErr.{JsonErr}
use Rattle.json_text.specs.declared.error.JsonErr.TheVariants.{Bad, Deep, NoMemory as no_room}
use Rattle.json_text.specs.declared.spot.Spot.{Spot}
use Rattle.json_text.specs.declared.doc.Doc.{Doc}
use Rattle.json_text.specs.declared.doc.Node.{Node}
use Rattle.json_text.specs.Forest.{Forest, empty, grows, count}
use Rattle.json_text.specs.Grammar.{IsText}
use Rattle.json_text.specs.Faults.{IsClean, IsFirstBad, IsFirstDeep}
use Rattle.json_text.specs.Spelling.{string_of}
use Rattle.json_text.specs.Levels.{first_holder}
use Rattle.json_text.specs.Shape.{is_map}
use Rattle.json_text.specs.Doc.{bytes_read, IsRoot, StandsAt, Shows}
use Rattle.cloud_events.specs.declared.sent.Sent.{Sent}
use Rattle.cloud_events.specs.declared.sent.EventErr.{EventErr}
use Rattle.cloud_events.specs.declared.sent.EventErr.TheVariants.{NotJson, Attribute, BothData, BadBase64, BadTime, NoMemory}
use Rattle.cloud_events.specs.declared.item.Item.{Item}
use Rattle.cloud_events.specs.declared.media.Form.{Form}
use Rattle.cloud_events.specs.declared.media.Form.TheVariants.{Event, Json, Plain, Binary}
use Rattle.cloud_events.specs.Clock.{IsTimeOf}
use Rattle.cloud_events.specs.Event.{Attribute as EventAttribute, NamesRise, attribute_of, completed, encoded_data, event_bytes, filled_members, optional_item, optional_member, own_items, set_members, spelled, text_data, text_item, trace_items, type_member, type_of, value_in}
use Rattle.cloud_events.specs.Items.{AreSaid, Rise, item_in, said}
use Rattle.cloud_events.specs.Judge.{AreEvents, IsFault}
use Rattle.cloud_events.specs.Media.{form_of}
use Rattle.cloud_events.specs.Members.{or_else}
use Rattle.cloud_events.specs.Placing.{fill, put}
use Rattle.cloud_events.specs.Reading.{AreData, IsData, IsUnreadBy, body_item, encoded_item, span_item}
use Rattle.cloud_events.specs.Wrapped.{AreGiven, AreSent, IsDataRefusal, IsEventRefusal, IsGiven, IsRead, IsRefused, IsWrapped, RefusedAs}
use Rattle.cloud_events.proofs.Putting.{item_put, item_fills, rise_put, rise_fills}

-- ---- the value of a text

pub record RootAt (doc : Doc) (bytes : List ℕ) (root : Node) : Type 0 where
  pub spot : Spot
  pub children : Forest
  pub later : Forest
  pub read : IsRead bytes (grows spot children later)
  pub stands : StandsAt doc root (grows spot children later)

root_by : (doc : Doc) (bytes : List ℕ) (root : Node) (values : Forest) → 0 < count values → IsText bytes values → IsClean bytes (length bytes + 1) → StandsAt doc root values → RootAt doc bytes root
root_by doc bytes root empty lt text clean stands = absurd (omega (arith, lt))
root_by doc bytes root (grows s c l) lt text clean stands = record { spot = s; children = c; later = l; read = record { text = text; clean = clean }; stands = stands }

pub root_at : (doc : Doc) (bytes : List ℕ) (root : Node) → Shows doc bytes → IsRoot root → RootAt doc bytes root
root_at doc bytes root shows is = root_by doc bytes root shows.values (subst (λ n. 0 < n) shows.all doc.some) shows.text shows.clean (shows.from_root root is)

-- ---- what was sent

same_told : (bytes : List ℕ) (children : Forest) (items : List Item) → AreSaid bytes children items → (λ name. item_in name items) ≡ said bytes children
same_told bytes children items h = λ i. λ name. h.are name i

pub sent_from : (doc : Doc) (bytes : List ℕ) (root : Node) → Shows doc bytes → (at : RootAt doc bytes root) (items : List Item) → is_map at.spot.kind ≡ true → AreSaid (bytes_read doc) at.children items → AreEvents (λ name. item_in name items) → AreSent bytes items
sent_from doc bytes root shows at items is h events =
    let said_are : AreSaid bytes at.children items = subst (λ b. AreSaid b at.children items) shows.same h in
    record { spot = at.spot; children = at.children; later = at.later; read = at.read; is_map = is; said_are = said_are; events = subst AreEvents (same_told bytes at.children items said_are) events }

map_refusal : (bytes : List ℕ) (spot : Spot) (children later : Forest) → IsRead bytes (grows spot children later) → is_map spot.kind ≡ true → (e : EventErr) → IsFault (said bytes children) e → IsEventRefusal bytes e
map_refusal bytes spot children later read is (NotJson at) h = absurd h
map_refusal bytes spot children later read is (Attribute name) h = record { spot = spot; children = children; later = later; read = read; why = (is, h) }
map_refusal bytes spot children later read is BothData h = record { spot = spot; children = children; later = later; read = read; why = (is, h) }
map_refusal bytes spot children later read is (BadBase64 at) h = record { spot = spot; children = children; later = later; read = read; why = (is, h) }
map_refusal bytes spot children later read is BadTime h = record { spot = spot; children = children; later = later; read = read; why = (is, h) }
map_refusal bytes spot children later read is NoMemory h = tt

pub refused_from : (doc : Doc) (bytes : List ℕ) (root : Node) → Shows doc bytes → (at : RootAt doc bytes root) (items : List Item) → is_map at.spot.kind ≡ true → AreSaid (bytes_read doc) at.children items → (e : EventErr) → IsFault (λ name. item_in name items) e → IsEventRefusal bytes e
refused_from doc bytes root shows at items is h e fault =
    let said_are : AreSaid bytes at.children items = subst (λ b. AreSaid b at.children items) shows.same h in
    map_refusal bytes at.spot at.children at.later at.read is e (subst (λ t. IsFault t e) (same_told bytes at.children items said_are) fault)

pub no_map : (doc : Doc) (bytes : List ℕ) (root : Node) (at : RootAt doc bytes root) → is_map at.spot.kind ≡ false → IsEventRefusal bytes (NotJson 0)
no_map doc bytes root at is = inr (record { spot = at.spot; children = at.children; later = at.later; read = at.read; why = (is, refl) })

pub unread_event : (body : List ℕ) (error : JsonErr) (e : EventErr) → IsUnreadBy error e → ((at : ℕ) → error ≡ Bad at → IsFirstBad body at) → ((at : ℕ) → error ≡ Deep at → IsFirstDeep body at) → IsEventRefusal body e
unread_event body (Bad at) e p bad deep = subst (IsEventRefusal body) (sym p) (inl (inl (bad at refl)))
unread_event body (Deep at) e p bad deep = subst (IsEventRefusal body) (sym p) (inl (inr (deep at refl)))
unread_event body no_room e p bad deep = subst (IsEventRefusal body) (sym p) tt

pub unread_data : (body : List ℕ) (error : JsonErr) (e : EventErr) → IsUnreadBy error e → ((at : ℕ) → error ≡ Bad at → IsFirstBad body at) → ((at : ℕ) → error ≡ Deep at → IsFirstDeep body at) → IsDataRefusal body e
unread_data body (Bad at) e p bad deep = subst (IsDataRefusal body) (sym p) (inl (inl (bad at refl)))
unread_data body (Deep at) e p bad deep = subst (IsDataRefusal body) (sym p) (inl (inr (deep at refl)))
unread_data body no_room e p bad deep = subst (IsDataRefusal body) (sym p) tt

pub no_memory_data : (body : List ℕ) (e : EventErr) → e ≡ NoMemory → IsDataRefusal body e
no_memory_data body e p = subst (IsDataRefusal body) (sym p) tt

-- data
pub data_from : (doc : Doc) (bytes : List ℕ) (root : Node) (sent : Sent) → Shows doc bytes → (at : RootAt doc bytes root) (items : List Item) (a b : ℕ) → bytes ≡ sent.body → first_holder 63 (grows at.spot at.children at.later) ≡ None
    → a ≡ at.spot.span.start → b ≡ at.spot.span.end → IsData (span_item a b) sent items → AreData sent items
data_from doc bytes root sent shows at items a b e shallow p q h = record {
  spot = at.spot;
  children = at.children;
  later = at.later;
  read = subst (λ x. IsRead x (grows at.spot at.children at.later)) e at.read;
  shallow = shallow;
  are = h ∙ (λ i. span_item (p i) (q i) ∷ text_item (codes "datacontenttype") (type_of sent.content_type) ∷ []);
}

pub deep_from : (doc : Doc) (bytes : List ℕ) (root n : Node) → (at : RootAt doc bytes root) (holder : Spot) → first_holder 63 (grows at.spot at.children at.later) ≡ Some holder → (place : ℕ) → place ≡ holder.span.start → IsDataRefusal bytes (NotJson place)
deep_from doc bytes root n at holder deep place p = inr (record { spot = at.spot; children = at.children; later = at.later; read = at.read; holder = holder; deep = deep; place = p })

-- ---- what is given

value_by : (b : Bool) (body : List ℕ) (item : Item) (rest : Option (List ℕ)) (there : Option Item) → rest ≡ option_map (spelled body) there → cond b (Some (spelled body item)) rest ≡ option_map (spelled body) (cond b (Some item) there)
value_by true body item rest there e = refl
value_by false body item rest there e = e

pub value_is : (body name : List ℕ) (items : List Item) → value_in name (map (attribute_of body) items) ≡ option_map (spelled body) (item_in name items)
unfolding item_in
value_is body name [] = refl
value_is body name (item ∷ items) = value_by (bytes_eq item.name name) body item (value_in name (map (attribute_of body) items)) (item_in name items) (value_is body name items)

module _ (sent : Sent) (items : List Item) where
  pub given_event : Event ≡ form_of sent.content_type → AreSent sent.body items → AreGiven sent items
  given_event e h = record {
    rise = h.said_are.rise;
    given = λ name. option_map (spelled sent.body) (said sent.body h.children name);
    is = subst (λ f. IsGiven f sent (λ name. option_map (spelled sent.body) (said sent.body h.children name))) e
        (record { spot = h.spot; children = h.children; later = h.later; read = h.read; is_map = h.is_map; events = h.events; are = λ name. refl });
    are = λ name. value_is sent.body name items ∙ ap (option_map (spelled sent.body)) (h.said_are.are name);
  }

  data_rises : (data_item : Item) → IsData data_item sent items → Rise (data_item ∷ text_item (codes "datacontenttype") (type_of sent.content_type) ∷ []) → Rise items
  data_rises data_item e h = subst Rise (sym e) h

  pub given_json : Json ≡ form_of sent.content_type → AreData sent items → AreGiven sent items
  given_json e h =
      let given : List ℕ → Option (List ℕ) = λ name. value_in name (attribute_of sent.body (span_item h.spot.span.start h.spot.span.end) ∷ type_member sent ∷ []) in
      record {
        rise = data_rises (span_item h.spot.span.start h.spot.span.end) h.are (refl, tt);
        given = given;
        is = subst (λ f. IsGiven f sent given) e (record { spot = h.spot; children = h.children; later = h.later; read = h.read; shallow = h.shallow; are = λ name. refl });
        are = λ name. ap (λ (xs : List Item). value_in name (map (attribute_of sent.body) xs)) h.are;
      }

  pub given_binary : Binary ≡ form_of sent.content_type → IsData encoded_item sent items → AreGiven sent items
  given_binary e h =
      let given : List ℕ → Option (List ℕ) = λ name. value_in name (encoded_data sent.body ∷ type_member sent ∷ []) in
      record {
        rise = data_rises encoded_item h (refl, tt);
        given = given;
        is = subst (λ f. IsGiven f sent given) e (λ name. refl);
        are = λ name. ap (λ (xs : List Item). value_in name (map (attribute_of sent.body) xs)) h;
      }

  plain_value : (b : Bool) → is_utf8 sent.body ≡ b → attribute_of sent.body (cond b body_item encoded_item) ≡ cond b (text_data sent.body) (encoded_data sent.body)
  plain_value true e = ap (λ b. record { name = codes "data"; value = cond b (string_of sent.body) [] }) e
  plain_value false e = refl

  plain_rises : (b : Bool) → Rise (cond b body_item encoded_item ∷ text_item (codes "datacontenttype") (type_of sent.content_type) ∷ [])
  plain_rises true = (refl, tt)
  plain_rises false = (refl, tt)

  pub given_plain : Plain ≡ form_of sent.content_type → IsData (cond (is_utf8 sent.body) body_item encoded_item) sent items → AreGiven sent items
  given_plain e h =
      let given : List ℕ → Option (List ℕ) = λ name. value_in name (cond (is_utf8 sent.body) (text_data sent.body) (encoded_data sent.body) ∷ type_member sent ∷ []) in
      record {
        rise = data_rises (cond (is_utf8 sent.body) body_item encoded_item) h (plain_rises (is_utf8 sent.body));
        given = given;
        is = subst (λ f. IsGiven f sent given) e (λ name. refl);
        are = λ name. ap (λ (xs : List Item). value_in name (map (attribute_of sent.body) xs)) h ∙ ap (λ x. value_in name (x ∷ type_member sent ∷ [])) (plain_value (is_utf8 sent.body) refl);
      }

pub refused_by : (sent : Sent) (form : Form) (e : EventErr) → form ≡ form_of sent.content_type → RefusedAs form sent.body e → IsRefused sent e
refused_by sent form e p h = subst (λ f. RefusedAs f sent.body e) p h

-- ---- the event

names_rise : (body : List ℕ) (items : List Item) → Rise items → NamesRise (map (attribute_of body) items)
names_rise body [] h = tt
names_rise body (item ∷ []) h = tt
names_rise body (item ∷ next ∷ items) h = (h.0, names_rise body (next ∷ items) h.1)

or_both : (b : Bool) (x : List ℕ) (all one other : Option (List ℕ)) → all ≡ or_else one other → cond b (Some x) all ≡ or_else (cond b (Some x) one) other
or_both true x all one other e = refl
or_both false x all one other e = e

pub in_both : (name : List ℕ) (one other : List EventAttribute) → value_in name (one ++ other) ≡ or_else (value_in name one) (value_in name other)
in_both name [] other = refl
in_both name (x ∷ one) other = or_both (bytes_eq x.name name) x.value (value_in name (one ++ other)) (value_in name one) (value_in name other) (in_both name one other)

map_or : (body : List ℕ) (one other : Option Item) → option_map (spelled body) (or_else one other) ≡ or_else (option_map (spelled body) one) (option_map (spelled body) other)
map_or body None other = refl
map_or body (Some x) other = refl

or_three : (a b c : Option (List ℕ)) → or_else (or_else a b) c ≡ or_else a (or_else b c)
or_three None b c = refl
or_three (Some x) b c = refl

set_by : (b c : Bool) (x y : Item) (body : List ℕ) (rest : Option Item) → option_map (spelled body) (cond b (Some x) (cond c (Some y) rest)) ≡ or_else (cond b (Some (spelled body x)) (cond c (Some (spelled body y)) None)) (option_map (spelled body) rest)
set_by true c x y body rest = refl
set_by false true x y body rest = refl
set_by false false x y body rest = refl

optional_are : (body name : List ℕ) (o : Option (List ℕ)) → map (attribute_of body) (optional_item name o) ≡ optional_member name o
optional_are body name None = refl
optional_are body name (Some text) = refl

traces_are : (sent : Sent) (body : List ℕ) → map (attribute_of body) (trace_items sent)
    ≡ optional_member (codes "traceid") sent.traceparent ++ optional_member (codes "traceparent") sent.traceparent ++ optional_member (codes "tracestate") sent.tracestate
traces_are sent body =
    let id = optional_item (codes "traceid") sent.traceparent in
    let parent = optional_item (codes "traceparent") sent.traceparent in
    let state = optional_item (codes "tracestate") sent.tracestate in
    map-append (attribute_of body) (id ++ parent) state
    ∙ ap (λ (xs : List EventAttribute). xs ++ map (attribute_of body) state) (map-append (attribute_of body) id parent)
    ∙ (λ i. (optional_are body (codes "traceid") sent.traceparent i ++ optional_are body (codes "traceparent") sent.traceparent i) ++ optional_are body (codes "tracestate") sent.tracestate i)

filled_are : (sent : Sent) (id time body : List ℕ) → map (attribute_of body) (own_items sent id time ++ trace_items sent) ≡ filled_members sent id time
filled_are sent id time body =
    map-append (attribute_of body) (own_items sent id time) (trace_items sent) ∙ ap (λ (xs : List EventAttribute). map (attribute_of body) (own_items sent id time) ++ xs) (traces_are sent body)

own_or : (sent : Sent) (id time body name : List ℕ) → or_else (option_map (spelled body) (item_in name (own_items sent id time))) (option_map (spelled body) (item_in name (trace_items sent))) ≡ value_in name (filled_members sent id time)
own_or sent id time body name =
    (λ i. or_else (sym (value_is body name (own_items sent id time)) i) (sym (value_is body name (trace_items sent)) i))
    ∙ sym (in_both name (map (attribute_of body) (own_items sent id time)) (map (attribute_of body) (trace_items sent)))
    ∙ ap (value_in name) (sym (map-append (attribute_of body) (own_items sent id time) (trace_items sent)) ∙ filled_are sent id time body)

abbrev filled : Sent → List ℕ → List ℕ → List Item → List Item
filled sent id time items = fold fill (fold fill items (own_items sent id time)) (trace_items sent)

filled_value : (sent : Sent) (id time name : List ℕ) (items : List Item) → option_map (spelled sent.body) (item_in name (filled sent id time items)) ≡ or_else (option_map (spelled sent.body) (item_in name items)) (value_in name (filled_members sent id time))
filled_value sent id time name items =
    let sp : Option Item → Option (List ℕ) = option_map (spelled sent.body) in
    let own = own_items sent id time in
    let traces = trace_items sent in
    ap sp (item_fills name traces (fold fill items own)) ∙ map_or sent.body (item_in name (fold fill items own)) (item_in name traces)
    ∙ ap (λ o. or_else o (sp (item_in name traces))) (ap sp (item_fills name own items) ∙ map_or sent.body (item_in name items) (item_in name own))
    ∙ or_three (sp (item_in name items)) (sp (item_in name own)) (sp (item_in name traces))
    ∙ ap (or_else (sp (item_in name items))) (own_or sent id time sent.body name)

completed_value : (sent : Sent) (id time name : List ℕ) (items : List Item) → option_map (spelled sent.body) (item_in name (completed sent id time items))
    ≡ or_else (value_in name (set_members sent)) (or_else (option_map (spelled sent.body) (item_in name items)) (value_in name (filled_members sent id time)))
completed_value sent id time name items =
    let topic = text_item (codes "topic") sent.topic in
    let pubsub = text_item (codes "pubsubname") sent.pubsub in
    let rest = filled sent id time items in
    ap (option_map (spelled sent.body)) (item_put name pubsub (put topic rest) ∙ ap (λ o. cond (bytes_eq (codes "pubsubname") name) (Some pubsub) o) (item_put name topic rest))
    ∙ set_by (bytes_eq (codes "pubsubname") name) (bytes_eq (codes "topic") name) pubsub topic sent.body (item_in name rest)
    ∙ ap (or_else (value_in name (set_members sent))) (filled_value sent id time name items)

pub wrapped_is : (sent : Sent) (id : List ℕ) (now : ℕ) (items : List Item) → AreGiven sent items → (event : List ℕ)
    → ((time : List ℕ) × IsTimeOf now time × (event ≡ event_bytes (map (attribute_of sent.body) (completed sent id time items)))) → IsWrapped sent id now event
wrapped_is sent id now items g event h =
    let time = h.0 in
    let all = completed sent id time items in
    record {
      given = g.given;
      is = g.is;
      time = time;
      moment = h.1;
      event_is = record {
        members = map (attribute_of sent.body) all;
        rise = names_rise sent.body all (rise_put _ _ (rise_put _ _ (rise_fills (trace_items sent) _ (rise_fills (own_items sent id time) items g.rise))));
        are = λ name. value_is sent.body name all ∙ completed_value sent id time name items
            ∙ ap (λ o. or_else (value_in name (set_members sent)) (or_else o (value_in name (filled_members sent id time)))) (sym (value_is sent.body name items) ∙ g.are name);
        spelled = h.2;
      };
    }
