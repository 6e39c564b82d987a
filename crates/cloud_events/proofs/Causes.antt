-- A body that becomes an event has no cause of refusal.
use Rattle.std.proofs.Common.{◌≡◌, inl, inr, ℕ, true, false, List, Option, refl, sym, ap, subst, ◌∙◌}
use Rattle.json_text.specs.declared.spot.Spot.{Spot}
use Rattle.json_text.specs.Forest.{Forest, grows}
use Rattle.json_text.specs.Shape.{is_map}
use Rattle.json_text.specs.Levels.{first_holder}
use Rattle.json_text.proofs.Fronts.{one_tree}
use Rattle.json_text.proofs.FirstFaults.{no_bad, no_deep}
use Rattle.cloud_events.specs.declared.item.Item.{Item}
use Rattle.cloud_events.specs.declared.sent.Sent.{Sent}
use Rattle.cloud_events.specs.declared.sent.EventErr.{EventErr}
use Rattle.cloud_events.specs.declared.sent.EventErr.TheVariants.{NotJson, Attribute, BothData, BadBase64, BadTime, NoMemory}
use Rattle.cloud_events.specs.declared.media.Form.{Form}
use Rattle.cloud_events.specs.declared.media.Form.TheVariants.{Event, Json, Plain, Binary}
use Rattle.cloud_events.specs.Items.{said}
use Rattle.cloud_events.specs.Judge.{AreEvents, IsFault}
use Rattle.cloud_events.specs.Wrapped.{IsDataRefusal, IsEventRefusal, IsGiven, IsJsonData, IsMapRefusal, IsRead, IsRefusedMap, IsSentEvent, IsUnread, RefusedAs}
use Rattle.cloud_events.proofs.Scanned.{none_some}

false_true : (B : Type 0) → false ≡ true → B
false_true B h = let bad : ⊥ = cc in absurd bad

no_fault : (told : List ℕ → Option Item) (e : EventErr) → AreEvents told → IsFault told e → e ≡ NoMemory
no_fault told (NotJson at) events h = absurd h
no_fault told (Attribute name) events h = false_true _ (sym (events.right name h.item h.there) ∙ h.wrong)
no_fault told BothData events h = false_true _ (sym events.one ∙ h.1)
no_fault told (BadBase64 at) events h = absurd (h.2.bad (events.base h.2.item h.2.there))
no_fault told BadTime events h = absurd (h.3.bad (events.time h.3.item h.3.there))
no_fault told NoMemory events h = refl

no_unread : (body : List ℕ) (values : Forest) (at : ℕ) → IsRead body values → IsUnread body at → ⊥
no_unread body values at read (inl h) = no_bad body at read.clean h
no_unread body values at read (inr h) = no_deep body at read.clean h

-- the value of a text is one
pub same_spot : (body : List ℕ) (s t : Spot) (c d l m : Forest) → IsRead body (grows s c l) → IsRead body (grows t d m) → s ≡ t
same_spot body s t c d l m a b = let tree = one_tree body (grows s c l) (grows t d m) a.text b.text in let same : s ≡ t = cc in same

pub same_held : (body : List ℕ) (s t : Spot) (c d l m : Forest) → IsRead body (grows s c l) → IsRead body (grows t d m) → c ≡ d
same_held body s t c d l m a b = let tree = one_tree body (grows s c l) (grows t d m) a.text b.text in let same : c ≡ d = cc in same

map_faults : (body : List ℕ) (spot : Spot) (children : Forest) (e : EventErr) → is_map spot.kind ≡ true → AreEvents (said body children) → IsMapRefusal body spot children e → e ≡ NoMemory
map_faults body spot children (NotJson at) is events h = false_true _ (sym h.0 ∙ is)
map_faults body spot children (Attribute name) is events h = no_fault (said body children) (Attribute name) events h.1
map_faults body spot children BothData is events h = no_fault (said body children) BothData events h.1
map_faults body spot children (BadBase64 at) is events h = no_fault (said body children) (BadBase64 at) events h.1
map_faults body spot children BadTime is events h = no_fault (said body children) BadTime events h.1
map_faults body spot children NoMemory is events h = refl

not_refused : (body : List ℕ) (given : List ℕ → Option (List ℕ)) (e : EventErr) → IsSentEvent body given → IsRefusedMap body e → e ≡ NoMemory
not_refused body given e is h =
    map_faults body h.spot h.children e (ap (λ (s : Spot). is_map s.kind) (sym (same_spot body is.spot h.spot is.children h.children is.later h.later is.read h.read)) ∙ is.is_map)
    (subst (λ (c : Forest). AreEvents (said body c)) (same_held body is.spot h.spot is.children h.children is.later h.later is.read h.read) is.events) h.why

no_event_refusal : (body : List ℕ) (given : List ℕ → Option (List ℕ)) (e : EventErr) → IsSentEvent body given → IsEventRefusal body e → e ≡ NoMemory
no_event_refusal body given (NotJson at) is (inl h) = absurd (no_unread body (grows is.spot is.children is.later) at is.read h)
no_event_refusal body given (NotJson at) is (inr h) = not_refused body given (NotJson at) is h
no_event_refusal body given (Attribute name) is h = not_refused body given (Attribute name) is h
no_event_refusal body given BothData is h = not_refused body given BothData is h
no_event_refusal body given (BadBase64 at) is h = not_refused body given (BadBase64 at) is h
no_event_refusal body given BadTime is h = not_refused body given BadTime is h
no_event_refusal body given NoMemory is h = refl

no_data_refusal : (sent : Sent) (given : List ℕ → Option (List ℕ)) (e : EventErr) → IsJsonData sent given → IsDataRefusal sent.body e → e ≡ NoMemory
no_data_refusal sent given (NotJson at) is (inl h) = absurd (no_unread sent.body (grows is.spot is.children is.later) at is.read h)
no_data_refusal sent given (NotJson at) is (inr h) =
    none_some h.holder _ (sym is.shallow ∙ ap (first_holder 63) (one_tree sent.body (grows is.spot is.children is.later) (grows h.spot h.children h.later) is.read.text h.read.text) ∙ h.deep)
no_data_refusal sent given (Attribute name) is h = absurd h
no_data_refusal sent given BothData is h = absurd h
no_data_refusal sent given (BadBase64 at) is h = absurd h
no_data_refusal sent given BadTime is h = absurd h
no_data_refusal sent given NoMemory is h = refl

pub no_cause : (form : Form) (sent : Sent) (given : List ℕ → Option (List ℕ)) (e : EventErr) → IsGiven form sent given → RefusedAs form sent.body e → e ≡ NoMemory
no_cause Event sent given e is h = no_event_refusal sent.body given e is h
no_cause Json sent given e is h = no_data_refusal sent given e is h
no_cause Plain sent given e is h = h
no_cause Binary sent given e is h = h
