-- A body becomes one event.
use Rattle.std.proofs.Common.{◌≡◌, ℕ, Bool, true, false, cond, List, [], ◌∷◌, ◌++◌, ◌/◌, ◌%◌, Option, Some, None, refl, sym, ap, ◌∙◌, codes}
use Rattle.std.specs.Prelude.{option_map, decimal, unsigned_abs}
use Rattle.std.specs.Str.{bytes_eq}
use Rattle.std.specs.Ordering.{nat_cmp, ordering_reverse}
use Rattle.std.specs.declared.cmp.Ordering.{Ordering}
use Rattle.std.specs.declared.cmp.Ordering.TheVariants.{Less, Equal, Greater}
use Rattle.std.specs.Cmp.Lexicographic.{slice_cmp}
use Rattle.std.specs.FinMap.{nat_cmp-IsAntisymmetric, slice_cmp-IsAntisymmetric}
use Rattle.std.proofs.lemmas.Cmp.{nat_list_cmp_total}
use Rattle.std.proofs.lemmas.Slice.Eq.{bytes_eq-Decides}
use Rattle.jiff.proofs.Family.{epoch_day_injective}
use Rattle.json_text.specs.declared.spot.Spot.{Spot}
use Rattle.json_text.specs.Forest.{Forest}
use Rattle.json_text.specs.Shape.{value_bytes}
use Rattle.cloud_events.specs.declared.sent.Sent.{Sent}
use Rattle.cloud_events.specs.declared.media.Form.{Form}
use Rattle.cloud_events.specs.declared.media.Form.TheVariants.{Event, Json, Plain, Binary}
use Rattle.cloud_events.specs.Clock.{IsTimeOf, clock_text, two}
use Rattle.cloud_events.specs.Event.{Attribute, NamesRise, event_bytes, filled_members, set_members, spelled, table, type_member, value_in}
use Rattle.cloud_events.specs.Items.{said}
use Rattle.cloud_events.specs.Media.{form_of}
use Rattle.cloud_events.specs.Members.{or_else}
use Rattle.cloud_events.specs.Wrapped.{IsGiven, IsWrapped}
use Rattle.cloud_events.proofs.Again.{apart, tail_rises}
use Rattle.cloud_events.proofs.Causes.{same_held, same_spot}
use Rattle.cloud_events.proofs.Scanned.{none_some, some_same}

-- ---- members by their values

pub true_false : (B : Type 0) → true ≡ false → B
true_false B h = let bad : ⊥ = cc in absurd bad

itself : (name : List ℕ) → bytes_eq name name ≡ true
itself name = (bytes_eq-Decides name name).1 refl

head_in : (m : Attribute) (members : List Attribute) → value_in m.name (m ∷ members) ≡ Some m.value
head_in m members = ap (λ b. cond b (Some m.value) (value_in m.name members)) (itself m.name)

none_by : (o : Option (List ℕ)) → ((v : List ℕ) → o ≡ Some v → ⊥) → o ≡ None
none_by None h = refl
none_by (Some v) h = absurd (h v refl)

pub none_behind : (m : Attribute) (members : List Attribute) (name : List ℕ) → NamesRise (m ∷ members) → bytes_eq m.name name ≡ true → value_in name members ≡ None
none_behind m members name rise e = none_by (value_in name members) (λ v h. true_false ⊥ (sym e ∙ apart m members name v rise h))

-- a lesser name stands in none of them
absent : (B : Type 0) (x y : Attribute) (others : List Attribute) → slice_cmp nat_cmp x.name y.name ≡ Less → NamesRise (y ∷ others) → Some x.value ≡ value_in x.name (y ∷ others) → B
absent B x y others less rise h = true_false B (sym (itself x.name) ∙ apart x (y ∷ others) x.name x.value (less, rise) (sym h))

same_rest : (b : Bool) (x y : Attribute) (one other : List Attribute) (name : List ℕ) → bytes_eq x.name name ≡ b → x.name ≡ y.name → NamesRise (x ∷ one) → NamesRise (y ∷ other)
    → cond b (Some x.value) (value_in name one) ≡ cond b (Some y.value) (value_in name other) → value_in name one ≡ value_in name other
same_rest true x y one other name e n p q h = none_behind x one name p e ∙ sym (none_behind y other name q (ap (λ z. bytes_eq z name) (sym n) ∙ e))
same_rest false x y one other name e n p q h = h

same_head : (x y : Attribute) → x.name ≡ y.name → x.value ≡ y.value → x ≡ y
same_head x y p q = λ i. record { name = p i; value = q i }

same_by : (o : Ordering) (x y : Attribute) (one other : List Attribute) → slice_cmp nat_cmp x.name y.name ≡ o → NamesRise (x ∷ one) → NamesRise (y ∷ other) → ((name : List ℕ) → value_in name (x ∷ one) ≡ value_in name (y ∷ other))
    → (((name : List ℕ) → value_in name one ≡ value_in name other) → one ≡ other) → x ∷ one ≡ y ∷ other
same_by Less x y one other e p q h later = absent _ x y other e q (sym (head_in x one) ∙ h x.name)
same_by Greater x y one other e p q h later = absent _ y x one (nat_list_cmp_total.antisymm y.name x.name ∙ ap ordering_reverse e) p (sym (head_in y other) ∙ sym (h y.name))
same_by Equal x y one other e p q h later =
    let n : x.name ≡ y.name = slice_cmp-IsAntisymmetric nat_cmp-IsAntisymmetric x.name y.name e in
    let v : x.value ≡ y.value = some_same x.value y.value (sym (head_in x one) ∙ h x.name ∙ ap (λ z. value_in z (y ∷ other)) n ∙ head_in y other) in
    let rest : one ≡ other = later (λ name. same_rest (bytes_eq x.name name) x y one other name refl n p q (h name ∙ ap (λ z. cond (bytes_eq z name) (Some y.value) (value_in name other)) (sym n))) in
    λ i. same_head x y n v i ∷ rest i

pub same_members : (one other : List Attribute) → NamesRise one → NamesRise other → ((name : List ℕ) → value_in name one ≡ value_in name other) → one ≡ other
same_members [] [] p q h = refl
same_members [] (y ∷ other) p q h = none_some y.value _ (h y.name ∙ head_in y other)
same_members (x ∷ one) [] p q h = none_some x.value _ (sym (h x.name) ∙ head_in x one)
same_members (x ∷ one) (y ∷ other) p q h =
    same_by (slice_cmp nat_cmp x.name y.name) x y one other refl p q h (λ rest. same_members one other (tail_rises x one p) (tail_rises y other q) rest)

-- ---- what is given, and the time

abbrev json_data : List ℕ → Spot → Attribute
json_data body s = record { name = codes "data"; value = value_bytes body s }

pub same_given : (form : Form) (sent : Sent) (g f : List ℕ → Option (List ℕ)) → IsGiven form sent g → IsGiven form sent f → (name : List ℕ) → g name ≡ f name
same_given Event sent g f a b name =
    a.are name ∙ ap (λ (c : Forest). option_map (spelled sent.body) (said sent.body c name)) (same_held sent.body a.spot b.spot a.children b.children a.later b.later a.read b.read) ∙ sym (b.are name)
same_given Json sent g f a b name =
    a.are name ∙ ap (λ (s : Spot). value_in name (json_data sent.body s ∷ type_member sent ∷ [])) (same_spot sent.body a.spot b.spot a.children b.children a.later b.later a.read b.read) ∙ sym (b.are name)
same_given Plain sent g f a b name = a name ∙ sym (b name)
same_given Binary sent g f a b name = a name ∙ sym (b name)

same_time : (now : ℕ) (a b : List ℕ) → IsTimeOf now a → IsTimeOf now b → a ≡ b
same_time now a b p q =
    let dates = epoch_day_injective p.day.date q.day.date (p.number ∙ sym q.number) in
    p.spelled
    ∙ (λ i. (decimal (unsigned_abs (dates.0 i)) ++ codes "-" ++ two (dates.1 i) ++ codes "-" ++ two (dates.2 i)) ++ clock_text (now % 86400000 / 1000))
    ∙ sym q.spelled

pub one_event : (sent : Sent) (id a b : List ℕ) (now : ℕ) → IsWrapped sent id now a → IsWrapped sent id now b → a ≡ b
one_event sent id a b now p q =
    let time = same_time now p.time q.time p.moment q.moment in
    let given = same_given (form_of sent.content_type) sent p.given q.given p.is q.is in
    let tables : (name : List ℕ) → table p.given sent id p.time name ≡ table q.given sent id q.time name =
    λ name. λ i. or_else (value_in name (set_members sent)) (or_else (given name i) (value_in name (filled_members sent id (time i)))) in
    p.event_is.spelled
    ∙ ap event_bytes (same_members p.event_is.members q.event_is.members p.event_is.rise q.event_is.rise (λ name. p.event_is.are name ∙ tables name ∙ sym (q.event_is.are name)))
    ∙ sym q.event_is.spelled
