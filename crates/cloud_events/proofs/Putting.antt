-- What members have with one more.
use Rattle.std.proofs.Common.{◌≡◌, ℕ, Bool, true, false, cond, List, [], ◌∷◌, fold, Option, Some, None, refl, sym, ap, ◌∙◌}
use Rattle.std.specs.Prelude.{is_some}
use Rattle.std.specs.Str.{bytes_eq}
use Rattle.std.specs.Ordering.{nat_cmp, is_eq, ordering_reverse}
use Rattle.std.specs.declared.cmp.Ordering.{Ordering}
use Rattle.std.specs.declared.cmp.Ordering.TheVariants.{Less, Equal, Greater}
use Rattle.std.specs.Cmp.Lexicographic.{slice_cmp}
use Rattle.std.specs.FinMap.{nat_cmp-IsAntisymmetric, slice_cmp-IsAntisymmetric}
use Rattle.std.proofs.lemmas.Cmp.{nat_list_cmp_total}
use Rattle.std.proofs.lemmas.Map.Text.{is_eq-slice_cmp}
use Rattle.std.proofs.lemmas.Slice.Eq.{bytes_eq-Decides}
use Rattle.cloud_events.specs.declared.item.Item.{Item}
use Rattle.cloud_events.specs.Members.{or_else}
use Rattle.cloud_events.specs.Items.{Rise, item_in}
use Rattle.cloud_events.specs.Placing.{placed, put, fill}

-- ---- names rise

other_head : (first item : Item) (rest : List Item) → item.name ≡ first.name → Rise (first ∷ rest) → Rise (item ∷ rest)
other_head first item [] e h = tt
other_head first item (next ∷ rest) e h = (ap (λ n. slice_cmp nat_cmp n next.name) e ∙ h.0, h.1)

head_by : (first item second : Item) (more : List Item) (o : Ordering) → slice_cmp nat_cmp first.name item.name ≡ Less → slice_cmp nat_cmp first.name second.name ≡ Less → Rise (placed o item second more (put item more)) → Rise (first ∷ placed o item second more (put item more))
head_by first item second more Less lt before h = (lt, h)
head_by first item second more Equal lt before h = (lt, h)
head_by first item second more Greater lt before h = (before, h)

head_below : (first item : Item) (rest : List Item) → slice_cmp nat_cmp first.name item.name ≡ Less → Rise (first ∷ rest) → Rise (put item rest) → Rise (first ∷ put item rest)
head_below first item [] lt h rise = (lt, tt)
head_below first item (second ∷ more) lt h rise = head_by first item second more (slice_cmp nat_cmp item.name second.name) lt h.0 rise

tail_rises : (first : Item) (rest : List Item) → Rise (first ∷ rest) → Rise rest
tail_rises first [] h = tt
tail_rises first (next ∷ rest) h = h.1

rise_by : (item first : Item) (rest : List Item) (o : Ordering) → slice_cmp nat_cmp item.name first.name ≡ o → Rise (first ∷ rest) → Rise (put item rest) → Rise (placed o item first rest (put item rest))
rise_by item first rest Less e h later = (e, h)
rise_by item first rest Equal e h later = other_head first item rest (slice_cmp-IsAntisymmetric nat_cmp-IsAntisymmetric item.name first.name e) h
rise_by item first rest Greater e h later = head_below first item rest (nat_list_cmp_total.antisymm first.name item.name ∙ ap ordering_reverse e) h later

pub rise_put : (item : Item) (items : List Item) → Rise items → Rise (put item items)
rise_put item [] h = tt
rise_put item (first ∷ rest) h = rise_by item first rest (slice_cmp nat_cmp item.name first.name) refl h (rise_put item rest (tail_rises first rest h))

-- ---- values

twice : (b : Bool) (x y z : Option Item) → cond b x z ≡ cond b x (cond b y z)
twice true x y z = refl
twice false x y z = refl

turned : (b c : Bool) (x y z : Option Item) → (b ≡ true → c ≡ true → ⊥) → cond c y (cond b x z) ≡ cond b x (cond c y z)
turned true true x y z h = absurd (h refl refl)
turned true false x y z h = refl
turned false true x y z h = refl
turned false false x y z h = refl

apart : (item first : Item) (name : List ℕ) → slice_cmp nat_cmp item.name first.name ≡ Greater → bytes_eq item.name name ≡ true → bytes_eq first.name name ≡ true → ⊥
apart item first name e p q =
    let same : item.name ≡ first.name = (bytes_eq-Decides item.name name).0 p ∙ sym ((bytes_eq-Decides first.name name).0 q) in
    let yes : bytes_eq item.name first.name ≡ true = (bytes_eq-Decides item.name first.name).1 same in
    let no : bytes_eq item.name first.name ≡ false = sym (is_eq-slice_cmp item.name first.name) ∙ ap is_eq e in
    let bad : ⊥ = cc in bad

item_first : (name : List ℕ) (item first : Item) (rest : List Item) (o : Ordering) → slice_cmp nat_cmp item.name first.name ≡ o → item_in name (put item rest) ≡ cond (bytes_eq item.name name) (Some item) (item_in name rest)
    → item_in name (placed o item first rest (put item rest)) ≡ cond (bytes_eq item.name name) (Some item) (item_in name (first ∷ rest))
unfolding item_in
item_first name item first rest Less e later = refl
item_first name item first rest Equal e later =
    let same : item.name ≡ first.name = slice_cmp-IsAntisymmetric nat_cmp-IsAntisymmetric item.name first.name e in
    twice (bytes_eq item.name name) (Some item) (Some first) (item_in name rest)
    ∙ ap (λ n. cond (bytes_eq item.name name) (Some item) (cond (bytes_eq n name) (Some first) (item_in name rest))) same
item_first name item first rest Greater e later =
    ap (cond (bytes_eq first.name name) (Some first)) later
    ∙ turned (bytes_eq item.name name) (bytes_eq first.name name) (Some item) (Some first) (item_in name rest) (apart item first name e)

pub item_put : (name : List ℕ) (item : Item) (items : List Item) → item_in name (put item items) ≡ cond (bytes_eq item.name name) (Some item) (item_in name items)
unfolding item_in
item_put name item [] = refl
item_put name item (first ∷ rest) = item_first name item first rest (slice_cmp nat_cmp item.name first.name) refl (item_put name item rest)

-- ---- members that are filled in

or_none : (o : Option Item) → or_else o None ≡ o
or_none None = refl
or_none (Some x) = refl

-- where one has the name
filled_by : (name : List ℕ) (items : List Item) (item : Item) (b : Bool) (there : Option Item) → bytes_eq item.name name ≡ b → item_in item.name items ≡ there
    → item_in name (cond (is_some there) items (put item items)) ≡ or_else (item_in name items) (cond b (Some item) None)
filled_by name items item true (Some x) e f =
    let same : item_in name items ≡ Some x = ap (λ n. item_in n items) (sym ((bytes_eq-Decides item.name name).0 e)) ∙ f in
    same ∙ ap (λ o. or_else o (Some item)) (sym same)
filled_by name items item true None e f =
    let same : item_in name items ≡ None = ap (λ n. item_in n items) (sym ((bytes_eq-Decides item.name name).0 e)) ∙ f in
    item_put name item items ∙ ap (λ b. cond b (Some item) (item_in name items)) e ∙ ap (λ o. or_else o (Some item)) (sym same)
filled_by name items item false (Some x) e f = sym (or_none (item_in name items))
filled_by name items item false None e f = item_put name item items ∙ ap (λ b. cond b (Some item) (item_in name items)) e ∙ sym (or_none (item_in name items))

item_fill : (name : List ℕ) (items : List Item) (item : Item) → item_in name (fill items item) ≡ or_else (item_in name items) (cond (bytes_eq item.name name) (Some item) None)
item_fill name items item = filled_by name items item (bytes_eq item.name name) (item_in item.name items) refl refl

rise_by_fill : (items : List Item) (item : Item) (there : Option Item) → Rise items → Rise (cond (is_some there) items (put item items))
rise_by_fill items item (Some x) h = h
rise_by_fill items item None h = rise_put item items h

or_three : (a b c : Option Item) → or_else (or_else a b) c ≡ or_else a (or_else b c)
or_three None b c = refl
or_three (Some x) b c = refl

cond_or : (b : Bool) (x : Item) (o : Option Item) → or_else (cond b (Some x) None) o ≡ cond b (Some x) o
cond_or true x o = refl
cond_or false x o = refl

pub item_fills : (name : List ℕ) (fills items : List Item) → item_in name (fold fill items fills) ≡ or_else (item_in name items) (item_in name fills)
unfolding item_in
item_fills name [] items = sym (or_none (item_in name items))
item_fills name (item ∷ fills) items =
    item_fills name fills (fill items item) ∙ ap (λ o. or_else o (item_in name fills)) (item_fill name items item)
    ∙ or_three (item_in name items) (cond (bytes_eq item.name name) (Some item) None) (item_in name fills)
    ∙ ap (or_else (item_in name items)) (cond_or (bytes_eq item.name name) item (item_in name fills))

pub rise_fills : (fills items : List Item) → Rise items → Rise (fold fill items fills)
rise_fills [] items h = h
rise_fills (item ∷ fills) items h = rise_fills fills (fill items item) (rise_by_fill items item (item_in item.name items) h)

pub kept_by : (items : List Item) (item : Item) (name : List ℕ) (those : List Item) → name ≡ item.name → those ≡ items → is_some (item_in name those) ≡ true → items ≡ fill items item
kept_by items item name those p q h = ap (λ b. cond b items (put item items)) (sym h ∙ (λ i. is_some (item_in (p i) (q i))))

pub put_by : (items after : List Item) (item : Item) (name : List ℕ) (those : List Item) → name ≡ item.name → those ≡ items → is_some (item_in name those) ≡ false → after ≡ put item items → after ≡ fill items item
put_by items after item name those p q h e = e ∙ ap (λ b. cond b items (put item items)) (sym h ∙ (λ i. is_some (item_in (p i) (q i))))
