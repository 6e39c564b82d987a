-- The member that is refused first, by a scan.
use Rattle.std.proofs.Common.{◌≡◌, ◌⊎◌, inl, inr, ℕ, ◌≤◌, Bool, true, false, cond, List, [], ◌∷◌, fold, Option, Some, None, refl, sym, ap, subst, ◌∙◌, arith}
use Rattle.std.specs.Prelude.{nat_lt}
use Rattle.std.specs.Str.{bytes_eq}
use Rattle.std.specs.Ordering.{nat_cmp, is_eq}
use Rattle.std.specs.declared.cmp.Ordering.TheVariants.{Less}
use Rattle.std.specs.Cmp.Lexicographic.{slice_cmp}
use Rattle.std.proofs.lemmas.Cmp.{nat_list_cmp_total}
use Rattle.std.proofs.lemmas.Map.Text.{is_eq-slice_cmp}
use Rattle.std.proofs.lemmas.Slice.Eq.{bytes_eq-Decides}
use Rattle.std.proofs.lemmas.Bool.Decides.{nat_tests}
use Rattle.cloud_events.specs.declared.item.Item.{Item}
use Rattle.cloud_events.specs.Items.{Rise, item_in}
use Rattle.cloud_events.specs.Judge.{AreRight, IsFirstWrong, earlier, first_wrong, is_wrong, sooner}

abbrev Among : Item → List Item → Type 0
Among item [] = ⊥
Among item (first ∷ rest) = (item ≡ first) ⊎ Among item rest

pub some_same : {A : Type 0} (x y : A) → Some x ≡ Some y → x ≡ y
some_same x y e = let same : x ≡ y = cc in same

pub none_some : {A : Type 0} (x : A) (B : Type 0) → None ≡ Some x → B
none_some x B e = let bad : ⊥ = cc in absurd bad

either : {A B C : Type 0} → (A → C) → (B → C) → A ⊎ B → C
either f g (inl x) = f x
either f g (inr y) = g y

-- ---- one step

-- what is found with one more is at most as far on
abbrev AtMost : Option Item → ℕ → Type 0
AtMost found place = (item : Item) × (found ≡ Some item) × (item.start ≤ place)

sooner_new : (b : Bool) (item first : Item) → nat_lt item.start first.start ≡ b → AtMost (cond b (Some item) (Some first)) item.start
sooner_new true item first e = (item, refl, omega arith)
sooner_new false item first e = (first, refl, grind (arith, nat_tests))

sooner_old : (b : Bool) (item first : Item) → nat_lt item.start first.start ≡ b → AtMost (cond b (Some item) (Some first)) first.start
sooner_old true item first e = (item, refl, grind (arith, nat_tests))
sooner_old false item first e = (first, refl, omega arith)

sooner_item : (found : Option Item) (item : Item) → AtMost (sooner found item) item.start
sooner_item None item = (item, refl, omega arith)
sooner_item (Some first) item = sooner_new (nat_lt item.start first.start) item first refl

step_item : (b : Bool) (found : Option Item) (item : Item) → is_wrong item ≡ b → is_wrong item ≡ true → AtMost (cond b (sooner found item) found) item.start
step_item true found item e h = sooner_item found item
step_item false found item e h = let bad : ⊥ = cc in absurd bad

step_found : (b : Bool) (item first : Item) → AtMost (cond b (sooner (Some first) item) (Some first)) first.start
step_found true item first = sooner_old (nat_lt item.start first.start) item first refl
step_found false item first = (first, refl, omega arith)

picked_by : (b : Bool) (item first g : Item) → cond b (Some item) (Some first) ≡ Some g → (g ≡ item) ⊎ (Some first ≡ Some g)
picked_by true item first g e = inl (sym (some_same item g e))
picked_by false item first g e = inr e

picked_sooner : (found : Option Item) (item g : Item) → sooner found item ≡ Some g → (g ≡ item) ⊎ (found ≡ Some g)
picked_sooner None item g e = inl (sym (some_same item g e))
picked_sooner (Some first) item g e = picked_by (nat_lt item.start first.start) item first g e

-- what is found is the new one, which is refused, or what was found before
picked : (b : Bool) (found : Option Item) (item g : Item) → is_wrong item ≡ b → cond b (sooner found item) found ≡ Some g → ((g ≡ item) × (is_wrong item ≡ true)) ⊎ (found ≡ Some g)
picked true found item g e h = either (λ p. inl (p, e)) (λ p. inr p) (picked_sooner found item g h)
picked false found item g e h = inr h

sooner_some : (found : Option Item) (item : Item) (B : Type 0) → sooner found item ≡ None → B
sooner_some None item B e = none_some item B (sym e)
sooner_some (Some first) item B e = let p = sooner_item (Some first) item in none_some p.0 B (sym e ∙ p.1)

nothing : (b : Bool) (found : Option Item) (item : Item) → is_wrong item ≡ b → cond b (sooner found item) found ≡ None → (found ≡ None) × (is_wrong item ≡ false)
nothing true found item e h = sooner_some found item _ h
nothing false found item e h = (h, e)

-- ---- the scan

scanned_none : (items : List Item) (found : Option Item) → fold earlier found items ≡ None → (found ≡ None) × ((item : Item) → Among item items → is_wrong item ≡ false)
scanned_none [] found e = (e, λ item h. absurd h)
scanned_none (x ∷ items) found e =
    let later = scanned_none items (earlier found x) e in
    let here = nothing (is_wrong x) found x refl later.0 in
    (here.0, λ item h. either (λ p. ap is_wrong p ∙ here.1) (λ p. later.1 item p) h)

record Scan (items : List Item) (found : Option Item) (g : Item) : Type 0 where
  wrong : is_wrong g ≡ true
  origin : Among g items ⊎ (found ≡ Some g)
  first : (item : Item) → Among item items → is_wrong item ≡ true → g.start ≤ item.start
  before : (item : Item) → found ≡ Some item → g.start ≤ item.start

before_by : (found : Option Item) (x g item : Item) → found ≡ Some item → ((other : Item) → earlier found x ≡ Some other → g.start ≤ other.start) → g.start ≤ item.start
before_by None x g item e h = none_some item _ e
before_by (Some first) x g item e h =
    let p = step_found (is_wrong x) x first in
    let le : g.start ≤ p.0.start = h p.0 p.1 in
    let same : first ≡ item = some_same first item e in
    let most : p.0.start ≤ first.start = p.2 in
    subst (λ (i : Item). g.start ≤ i.start) same (omega (arith, le, most))

first_by : (found : Option Item) (x g item : Item) → item ≡ x → is_wrong item ≡ true → ((other : Item) → earlier found x ≡ Some other → g.start ≤ other.start) → g.start ≤ item.start
first_by found x g item q wrong h =
    let at = step_item (is_wrong x) found x refl (ap is_wrong (sym q) ∙ wrong) in
    let le : g.start ≤ at.0.start = h at.0 at.1 in
    let most : at.0.start ≤ x.start = at.2 in
    subst (λ (i : Item). g.start ≤ i.start) (sym q) (omega (arith, le, most))

scanned_some : (items : List Item) (found : Option Item) (g : Item) → fold earlier found items ≡ Some g → ((item : Item) → found ≡ Some item → is_wrong item ≡ true) → Scan items found g
scanned_some [] found g e h = record {
  wrong = h g e;
  origin = inr e;
  first = λ item p. absurd p;
  before = λ item p. subst (λ (i : Item). g.start ≤ i.start) (some_same g item (sym e ∙ p)) (omega arith);
}
scanned_some (x ∷ items) found g e h =
    let step = earlier found x in
    let from : (item : Item) → step ≡ Some item → ((item ≡ x) × (is_wrong x ≡ true)) ⊎ (found ≡ Some item) = λ item p. picked (is_wrong x) found x item refl p in
    let rest : Scan items step g = scanned_some items step g e (λ item p. either (λ q. ap is_wrong q.0 ∙ q.1) (λ q. h item q) (from item p)) in
    record {
      wrong = rest.wrong;
      origin = either (λ q. inl (inr q)) (λ q. either (λ r. inl (inl r.0)) (λ r. inr r) (from g q)) rest.origin;
      first = λ item p wrong. either
          (λ q. first_by found x g item q wrong rest.before)
          (λ q. rest.first item q wrong) p;
      before = λ item p. before_by found x g item p rest.before;
    }

-- ---- names

among_by : (b : Bool) (x g : Item) (items : List Item) (name : List ℕ) → bytes_eq x.name name ≡ b → cond b (Some x) (item_in name items) ≡ Some g → (item_in name items ≡ Some g → Among g items × (g.name ≡ name)) → Among g (x ∷ items) × (g.name ≡ name)
among_by true x g items name e h later = let same : g ≡ x = sym (some_same x g h) in (inl same, ap (λ (i : Item). i.name) same ∙ (bytes_eq-Decides x.name name).0 e)
among_by false x g items name e h later = let p = later h in (inr p.0, p.1)

among : (items : List Item) (name : List ℕ) (g : Item) → item_in name items ≡ Some g → Among g items × (g.name ≡ name)
unfolding item_in
among [] name g e = none_some g _ e
among (x ∷ items) name g e = among_by (bytes_eq x.name name) x g items name refl e (λ h. among items name g h)

rises_above : (items : List Item) (x g : Item) → Rise (x ∷ items) → Among g items → slice_cmp nat_cmp x.name g.name ≡ Less
rises_above [] x g rise h = absurd h
rises_above (y ∷ items) x g rise (inl e) = ap (λ (i : Item). slice_cmp nat_cmp x.name i.name) e ∙ rise.0
rises_above (y ∷ items) x g rise (inr h) = nat_list_cmp_total.trans x.name y.name g.name rise.0 (rises_above items y g rise.1 h)

rise_tail : (x : Item) (items : List Item) → Rise (x ∷ items) → Rise items
rise_tail x [] h = tt
rise_tail x (y ∷ items) h = h.1

in_among : (items : List Item) (g : Item) → Rise items → Among g items → item_in g.name items ≡ Some g
unfolding item_in
in_among [] g rise h = absurd h
in_among (x ∷ items) g rise (inl e) =
    ap (λ b. cond b (Some x) (item_in g.name items)) ((bytes_eq-Decides x.name g.name).1 (ap (λ (i : Item). i.name) (sym e))) ∙ ap Some (sym e)
in_among (x ∷ items) g rise (inr h) =
    let other : bytes_eq x.name g.name ≡ false = sym (is_eq-slice_cmp x.name g.name) ∙ ap is_eq (rises_above items x g rise h) in
    ap (λ b. cond b (Some x) (item_in g.name items)) other ∙ in_among items g (rise_tail x items rise) h

-- ---- what the scan says of the names

pub all_right : (items : List Item) → None ≡ first_wrong items → AreRight (λ name. item_in name items)
all_right items e name item h = (scanned_none items None (sym e)).1 item (among items name item h).0

pub first_is : (items : List Item) (g : Item) → Rise items → Some g ≡ first_wrong items → IsFirstWrong (λ name. item_in name items) g.name
first_is items g rise e =
    let scan : Scan items None g = scanned_some items None g (sym e) (λ item p. none_some item _ p) in
    let there : Among g items = either (λ p. p) (λ p. none_some g _ p) scan.origin in
    record {
      item = g;
      there = in_among items g rise there;
      wrong = scan.wrong;
      first = λ other next h wrong. scan.first next (among items other next h).0 wrong;
    }
