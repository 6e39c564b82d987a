-- The first store that keeps the state of actors.
use Rattle.std.proofs.Common.{◌≡◌, ◌∙◌, ◌<◌, ◌≤◌, ◌+◌, ℕ, Bool, true, false, cond, ◌&&◌, nat_lt, List, [], ◌∷◌, length, drop, slice_index_or, position, Some, None, refl, sym, ap, subst, arith}
use Rattle.std.specs.List.{position_or_len}
use Rattle.std.proofs.lemmas.List.{drop_more, drop_all, length-map}
use Rattle.std.proofs.lemmas.List.Quantifiers.{position-Some}
use Rattle.std.proofs.lemmas.Bool.Decides.{nat_tests}
use Rattle.resource_spec.specs.Component.{Loaded}
use Rattle.sidecar_core.specs.declared.config.Config.{Config}
use Rattle.sidecar_core.specs.Site.{Site}
use Rattle.sidecar_core.specs.Sites.{actor_store_of, is_store, keeps_actors, site_of, sites_of, stores_of}

-- so many stores were passed over, none of which keeps it, and these components are left
pub record Passed (all : List Loaded) (stores : ℕ) (left : List Loaded) : Type 0 where
  pub place : stores + position_or_len keeps_actors (stores_of left) ≡ position_or_len keeps_actors (stores_of all)
  pub count : stores + length (stores_of left) ≡ length (stores_of all)

pub passed_none : (all : List Loaded) → Passed all 0 all
passed_none all = record { place = omega arith; count = omega arith }

module _ (all : List Loaded) (stores : ℕ) (c : Loaded) (left : List Loaded) where
  -- the next component by what it is
  next_by : (store keeps : Bool) → is_store c.kind ≡ store → keeps_actors c ≡ keeps → (store && keeps) ≡ false → (counted : ℕ) → counted ≡ length (stores_of (c ∷ [])) → Passed all stores (c ∷ left) → Passed all (stores + counted) left
  next_by true true is kept none counted many passed = absurd (cc)
  next_by true false is kept none counted many passed =
      let one : length (stores_of (c ∷ [])) ≡ 1 = ap (λ b. length (cond b (c ∷ []) [])) is in
      let more : stores_of (c ∷ left) ≡ c ∷ stores_of left = ap (λ b. cond b (c ∷ stores_of left) (stores_of left)) is in
      let place : position_or_len keeps_actors (c ∷ stores_of left) ≡ 1 + position_or_len keeps_actors (stores_of left) = (rw kept refl) in record {
        place = omega (arith, many, one, place, ap (position_or_len keeps_actors) more, passed.place);
        count = omega (arith, many, one, ap length more, passed.count);
      }
  next_by false keeps is kept none counted many passed =
      let no : length (stores_of (c ∷ [])) ≡ 0 = ap (λ b. length (cond b (c ∷ []) [])) is in
      let same : stores_of (c ∷ left) ≡ stores_of left = ap (λ b. cond b (c ∷ stores_of left) (stores_of left)) is in record {
        place = omega (arith, many, no, ap (position_or_len keeps_actors) same, passed.place);
        count = omega (arith, many, no, ap length same, passed.count);
      }

  found_by : (store keeps : Bool) → is_store c.kind ≡ store → keeps_actors c ≡ keeps → (store && keeps) ≡ true → Passed all stores (c ∷ left) → actor_store_of all ≡ Some stores
  found_by true false is kept some-here passed = absurd (cc)
  found_by false keeps is kept some-here passed = absurd (cc)
  found_by true true is kept some-here passed =
      let more : stores_of (c ∷ left) ≡ c ∷ stores_of left = ap (λ b. cond b (c ∷ stores_of left) (stores_of left)) is in
      let place : position_or_len keeps_actors (c ∷ stores_of left) ≡ 0 = (rw kept refl) in
      let here : position_or_len keeps_actors (stores_of all) ≡ stores = omega (arith, place, ap (position_or_len keeps_actors) more, passed.place) in
      let low : stores < length (stores_of all) = omega (arith, ap length more, passed.count) in
      let within : nat_lt stores (length (stores_of all)) ≡ true = grind (arith, nat_tests) in
      ap (λ n. cond (nat_lt n (length (stores_of all))) (Some n) None) here ∙ ap (λ b. cond b (Some stores) None) within

-- in place of the rest from a place on
module _ (all : List Loaded) (stores : ℕ) (place : ℕ) (c : Loaded) (low : place < length all) (at : c ≡ slice_index_or all place c) where
  here : drop place all ≡ c ∷ drop (place + 1) all
  here = drop_more all place c low ∙ (λ j. sym at j ∷ drop (place + 1) all)

  pub passed_next : (counted : ℕ) → (is_store c.kind && keeps_actors c) ≡ false → counted ≡ length (stores_of (c ∷ [])) → Passed all stores (drop place all) → Passed all (stores + counted) (drop (place + 1) all)
  passed_next counted none many passed = next_by all stores c (drop (place + 1) all) (is_store c.kind) (keeps_actors c) refl refl none counted many (subst (Passed all stores) here passed)

  pub passed_found : (is_store c.kind && keeps_actors c) ≡ true → Passed all stores (drop place all) → actor_store_of all ≡ Some stores
  passed_found some-here passed = found_by all stores c (drop (place + 1) all) (is_store c.kind) (keeps_actors c) refl refl some-here (subst (Passed all stores) here passed)

pub passed_all : (all : List Loaded) (stores place : ℕ) → length all ≤ place → Passed all stores (drop place all) → actor_store_of all ≡ None
passed_all all stores place end passed =
    let none : drop place all ≡ [] = drop_all place all end in
    let p = subst (Passed all stores) none passed in
    let here : position_or_len keeps_actors (stores_of all) ≡ stores = omega (arith, p.place) in
    let long : length (stores_of all) ≡ stores = omega (arith, p.count) in
    let without : nat_lt stores stores ≡ false = grind (arith, nat_tests) in
    ap (λ n. cond (nat_lt n (length (stores_of all))) (Some n) None) here ∙ ap (λ m. cond (nat_lt stores m) (Some stores) None) long ∙ ap (λ b. cond b (Some stores) None) without

-- it is one of the stores
pub chosen_low : (config : Config) (place : ℕ) (sites : List Site) → sites ≡ sites_of config → actor_store_of config.components ≡ Some place → place < length sites
chosen_low config place sites same is = low_in (stores_of config.components) refl where
  low_in : (stores : List Loaded) → stores ≡ stores_of config.components → place < length sites
  low_in [] none = absurd (never (subst (λ l. position keeps_actors l ≡ Some place) (sym none) is)) where
    never : None ≡ Some place → ⊥
    never e = absurd (cc)
  low_in (c ∷ stores) some-there =
      let first = (position-Some keeps_actors (stores_of config.components) place c is).0 in
      omega (arith, first, length-map (stores_of config.components) (site_of config), ap length same)
