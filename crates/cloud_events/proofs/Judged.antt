-- What the tests of members come to.
use Rattle.std.proofs.Common.{◌≡◌, ◌⊎◌, inl, inr, ℕ, false, List, Option, Some, None, sym, subst, ◌∙◌, codes}
use Rattle.std.specs.Prelude.{Result, Ok, Err, OnOk, MatchOption}
use Rattle.cloud_events.specs.declared.item.Item.{Item}
use Rattle.cloud_events.specs.declared.sent.EventErr.{EventErr}
use Rattle.cloud_events.specs.declared.sent.EventErr.TheVariants.{NotJson, Attribute, BothData, BadBase64, BadTime, NoMemory}
use Rattle.cloud_events.specs.Items.{item_in}
use Rattle.cloud_events.specs.Judge.{AreEvents, AreRight, IsBadBase, IsBadTime, IsBaseValue, IsDataFault, IsFault, IsFirstWrong, IsGoodBase, IsGoodTime, IsTimeValue, are_both}
use Rattle.cloud_events.proofs.Scanned.{none_some, some_same}

abbrev pub told : List Item → List ℕ → Option Item
told items name = item_in name items

pub attribute_fault : (items : List Item) (g : Item) (e : EventErr) → IsFirstWrong (told items) g.name → (e ≡ Attribute g.name) ⊎ (e ≡ NoMemory) → IsFault (told items) e
attribute_fault items g e first (inl p) = subst (IsFault (told items)) (sym p) first
attribute_fault items g e first (inr p) = subst (IsFault (told items)) (sym p) tt

pub data_fault : (items : List Item) (e : EventErr) → AreRight (told items) → IsDataFault (told items) e → IsFault (told items) e
data_fault items (NotJson at) right h = h
data_fault items (Attribute name) right h = absurd h
data_fault items BothData right h = (right, h)
data_fault items (BadBase64 at) right h = (right, h.0, h.1)
data_fault items BadTime right h = (right, h.0, h.1, h.2)
data_fault items NoMemory right h = tt

pub events_are : {T : Type 0} (items : List Item) (r : Result T EventErr) → AreRight (told items) → OnOk r (are_both (told items) ≡ false) → OnOk r (IsGoodBase (told items)) → OnOk r (IsGoodTime (told items)) → OnOk r (AreEvents (told items))
events_are items (Ok x) right one base time = record { right = right; one = one; base = base; time = time }
events_are items (Err e) right one base time = tt

pub bad_at : (items : List Item) (g : Item) → Some g ≡ item_in (codes "data_base64") items → (bad : Option ℕ) → MatchOption bad (IsBaseValue g.value) (λ at. (¬ IsBaseValue g.value) × (at ≡ g.start)) → MatchOption bad (IsGoodBase (told items)) (IsBadBase (told items))
bad_at items g p None h = λ item e. subst (λ (i : Item). IsBaseValue i.value) (some_same g item (p ∙ e)) h
bad_at items g p (Some at) h = record { item = g; there = sym p; bad = h.0; place = h.1 }

pub no_base : (items : List Item) → None ≡ item_in (codes "data_base64") items → IsGoodBase (told items)
no_base items p item e = none_some item _ (p ∙ e)

pub good_time : (items : List Item) (g : Item) → Some g ≡ item_in (codes "time") items → IsTimeValue g.value → IsGoodTime (told items)
good_time items g p h item e = subst (λ (i : Item). IsTimeValue i.value) (some_same g item (p ∙ e)) h

pub no_time : (items : List Item) → None ≡ item_in (codes "time") items → IsGoodTime (told items)
no_time items p item e = none_some item _ (p ∙ e)

pub bad_time : (items : List Item) (g : Item) (e : EventErr) → Some g ≡ item_in (codes "time") items → (e ≡ BadTime) × (¬ IsTimeValue g.value) → (e ≡ BadTime) × IsBadTime (told items)
bad_time items g e p h = (h.0, record { item = g; there = sym p; bad = h.1 })

pub time_fault : (items : List Item) (e : EventErr) → are_both (told items) ≡ false → IsGoodBase (told items) → (e ≡ BadTime) × IsBadTime (told items) → IsDataFault (told items) e
time_fault items e one base h = subst (IsDataFault (told items)) (sym h.0) (one, base, h.1)
