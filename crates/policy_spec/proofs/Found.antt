-- Look-ups by a name.
use Rattle.std.proofs.Common.{◌≡◌, ◌∙◌, ap, subst, length, ℕ, cond, List, [], ◌∷◌, refl, sym, Option, Some, None}
use Rattle.std.specs.Prelude.{map, String, false, bytes_eq, IfSome}
use Rattle.std.specs.List.{AllByRecursion, AllZip, IsDistinct}
use Rattle.std.specs.List.Sorted.{IsStrictlySortedBy}
use Rattle.std.proofs.lemmas.Map.Keys.{IsDistinct-from_sorted}
use Rattle.std.specs.Map.{lookup, keys_of}
use Rattle.std.specs.BTreeMap.{BTreeMap, Updates, is_at, insert_entry}
use Rattle.std.specs.Cmp.Lexicographic.{slice_cmp}
use Rattle.std.specs.Ordering.{is_eq, nat_cmp, eq_by_cmp, match_ordering}
use Rattle.std.specs.String.{string_bytes, string_cmp}
use Rattle.std.specs.declared.cmp.Ordering.{Ordering}
use Rattle.std.specs.declared.cmp.Ordering.TheVariants.{Less, Equal, Greater}
use Rattle.std.proofs.lemmas.Map.Text.{is_eq-slice_cmp}
use Rattle.retry_core.specs.declared.policy.Bound.{Bound}
use Rattle.policy_spec.specs.Named.{under, put_under, AreNames}
use Rattle.policy_spec.specs.Policies.{Aim, Binding, named_bound, IsBoundWithin, IsSound}

pub found_same : {V : Type 0} (Z : Type 0) (name : List ℕ) (es : List (String Z × V)) → under name (map (λ (e : String Z × V). (string_bytes e.0, e.1)) es) ≡ lookup (is_at (λ (k : String Z). slice_cmp nat_cmp name (string_bytes k))) es
found_same Z name [] = refl
found_same {V} Z name (e ∷ es) =
    ap (λ b. cond b (Some e.1) (under name (map (λ (e : String Z × V). (string_bytes e.0, e.1)) es))) (sym (is_eq-slice_cmp name (string_bytes e.0)))
    ∙ ap (λ r. cond (is_eq (slice_cmp nat_cmp name (string_bytes e.0))) (Some e.1) r) (found_same Z name es)

-- what is put under a name is seen there
pub put_same : {V : Type 0} (Z : Type 0) (es : List (String Z × V)) (k : String Z) (v : V) → map (λ (e : String Z × V). (string_bytes e.0, e.1)) (insert_entry string_cmp es k v) ≡ put_under (map (λ (e : String Z × V). (string_bytes e.0, e.1)) es) (string_bytes k) v
put_same Z [] k v = refl
put_same {V} Z (e ∷ es) k v = by_order (slice_cmp nat_cmp (string_bytes k) (string_bytes e.0)) (put_same Z es k v)
  where
    by_order : (o : Ordering) → map (λ (e : String Z × V). (string_bytes e.0, e.1)) (insert_entry string_cmp es k v) ≡ put_under (map (λ (e : String Z × V). (string_bytes e.0, e.1)) es) (string_bytes k) v → map (λ (e : String Z × V). (string_bytes e.0, e.1)) (match_ordering o ((k, v) ∷ e ∷ es) ((e.0, v) ∷ es) (e ∷ insert_entry string_cmp es k v))
        ≡ match_ordering o ((string_bytes k, v) ∷ (string_bytes e.0, e.1) ∷ map (λ (e : String Z × V). (string_bytes e.0, e.1)) es) ((string_bytes e.0, v) ∷ map (λ (e : String Z × V). (string_bytes e.0, e.1)) es) ((string_bytes e.0, e.1) ∷ put_under (map (λ (e : String Z × V). (string_bytes e.0, e.1)) es) (string_bytes k) v)
    by_order Less same = refl
    by_order Equal same = refl
    by_order Greater same = ap (λ l. (string_bytes e.0, e.1) ∷ l) same

-- what is bound to a target is within its limits
pub sound_named : (inside value : Binding) → inside ≡ value → IsSound inside → (aim : Aim) (x : Bound) → named_bound inside aim ≡ Some x → IsBoundWithin (length value.breakers) x
sound_named inside value is sound aim x e = subst (λ (b : Binding). IsBoundWithin (length b.breakers) x) is (sound.bounds aim x e)

-- what differs as texts differs as bytes
apart_all : {V : Type 0} (Z : Type 0) (k : String Z) (es : List (String Z × V)) → AllByRecursion (λ (y : String Z). eq_by_cmp string_cmp k y ≡ false) (keys_of es) → AllByRecursion (λ y. bytes_eq (string_bytes k) y ≡ false) (keys_of (map (λ (e : String Z × V). (string_bytes e.0, e.1)) es))
apart_all Z k [] h = h
apart_all Z k (e ∷ es) h = (sym (is_eq-slice_cmp (string_bytes k) (string_bytes e.0)) ∙ h.0, apart_all Z k es h.1)

names_differ : {V : Type 0} (Z : Type 0) (es : List (String Z × V)) → IsDistinct (eq_by_cmp string_cmp) (keys_of es) → IsDistinct bytes_eq (keys_of (map (λ (e : String Z × V). (string_bytes e.0, e.1)) es))
unfolding IsDistinct
names_differ Z [] h = h
names_differ Z (e ∷ es) h = (apart_all Z e.0 es h.0, names_differ Z es h.1)

-- what is below as a text is below as bytes
below_all : {V : Type 0} (Z : Type 0) (k : String Z) (es : List (String Z × V)) → AllByRecursion (λ (y : String Z). string_cmp k y ≡ Less) (keys_of es) → AllByRecursion (λ y. slice_cmp nat_cmp (string_bytes k) y ≡ Less) (keys_of (map (λ (e : String Z × V). (string_bytes e.0, e.1)) es))
below_all Z k [] h = h
below_all Z k (e ∷ es) h = (h.0, below_all Z k es h.1)

names_rise : {V : Type 0} (Z : Type 0) (es : List (String Z × V)) → IsStrictlySortedBy string_cmp (keys_of es) → IsStrictlySortedBy (slice_cmp nat_cmp) (keys_of (map (λ (e : String Z × V). (string_bytes e.0, e.1)) es))
unfolding IsStrictlySortedBy
names_rise Z [] h = h
names_rise Z (e ∷ es) h = (below_all Z e.0 es h.0, names_rise Z es h.1)

pub are_names : {V : Type 0} (Z : Type 0) (es : List (String Z × V)) → IsStrictlySortedBy string_cmp (keys_of es) → AreNames (map (λ (e : String Z × V). (string_bytes e.0, e.1)) es)
are_names Z es h = record { rise = names_rise Z es h; differ = names_differ Z es (IsDistinct-from_sorted string_cmp (keys_of es) h) }

-- what was taken off stands under its name no more
pub taken_off : {V : Type 0} (Z : Type 0) (old new : BTreeMap (String Z) V) (taken : Option (String Z × V)) → IfSome taken (λ e. Updates string_cmp old new e.0 None) → IfSome taken (λ e. under (string_bytes e.0) (map (λ (e : String Z × V). (string_bytes e.0, e.1)) new.entries) ≡ None)
taken_off Z old new None h = h
taken_off Z old new (Some e) h = found_same Z (string_bytes e.0) new.entries ∙ h.1

-- a copy of each entry shows what the entry does
pub copied : {V : Type 0} (Z : Type 0) (es copies : List (String Z × V)) → AllZip (λ (p q : String Z × V). (string_bytes q.0 ≡ string_bytes p.0) × (q.1 ≡ p.1)) es copies → map {B = List ℕ × V} (λ (e : String Z × V). (string_bytes e.0, e.1)) copies ≡ map {B = List ℕ × V} (λ (e : String Z × V). (string_bytes e.0, e.1)) es
copied Z [] [] h = refl
copied Z [] (q ∷ copies) h = absurd h
copied Z (p ∷ es) [] h = absurd h
copied {V} Z (p ∷ es) (q ∷ copies) h =
    ap (λ (n : List ℕ). (n, q.1) ∷ map {B = List ℕ × V} (λ (e : String Z × V). (string_bytes e.0, e.1)) copies) h.0.0
    ∙ ap (λ (v : V). (string_bytes p.0, v) ∷ map {B = List ℕ × V} (λ (e : String Z × V). (string_bytes e.0, e.1)) copies) h.0.1
    ∙ ap (λ l. (string_bytes p.0, p.1) ∷ l) (copied Z es copies h.1)
