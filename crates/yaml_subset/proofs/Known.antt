-- Names that are kept in order.
use Rattle.std.proofs.Common.{◌≡◌, ℕ, Bool, true, false, ◌||◌, List, [], ◌∷◌, refl, sym, ap, ◌∙◌}
use Rattle.std.specs.Prelude.{map, bytes_eq, not}
use Rattle.std.specs.List.{list_any}
use Rattle.std.specs.declared.alloc.Global.{Global}
use Rattle.std.specs.declared.vec.Vec.{Vec}
use Rattle.std.specs.declared.cmp.Ordering.{Ordering}
use Rattle.std.specs.declared.cmp.Ordering.TheVariants.{Less, Equal, Greater}
use Rattle.std.specs.Ordering.{nat_cmp, is_eq, match_ordering}
use Rattle.std.specs.Cmp.Lexicographic.{slice_cmp}
use Rattle.std.specs.BTreeMap.{is_at}
use Rattle.std.specs.BTreeSet.{insert_key}
use Rattle.std.proofs.lemmas.Map.Text.{is_eq-slice_cmp}
use Rattle.std.proofs.lemmas.Slice.Eq.{bytes_eq-Decides}
use Rattle.yaml_subset.specs.Names.{has_name}

abbrev pub in_order : Vec ℕ Global → Vec ℕ Global → Ordering
in_order x y = slice_cmp nat_cmp x.items y.items

abbrev pub bytes_of : List (Vec ℕ Global) → List (List ℕ)
bytes_of keys = map (λ (k : Vec ℕ Global). k.items) keys

-- whether a set has a name
pub has_key : (keys : List (Vec ℕ Global)) (key : Vec ℕ Global) → list_any (is_at (in_order key)) keys ≡ has_name (bytes_of keys) key.items
has_key [] key = refl
has_key (k ∷ keys) key =
    ap (λ b. b || list_any (is_at (in_order key)) keys) (is_eq-slice_cmp key.items k.items)
    ∙ ap (λ b. bytes_eq key.items k.items || b) (has_key keys key)

pub or_exchange : (a b c : Bool) → (a || (b || c)) ≡ (b || (a || c))
or_exchange true true c = refl
or_exchange true false c = refl
or_exchange false b c = refl

or_twice : (a b : Bool) → (a || b) ≡ (a || (a || b))
or_twice true b = refl
or_twice false b = refl

by_order : (first : Vec ℕ Global) (keys rest : List (Vec ℕ Global)) (key : Vec ℕ Global) (other : List ℕ) (o : Ordering) → in_order key first ≡ o → has_name (bytes_of rest) other ≡ (bytes_eq other key.items || has_name (bytes_of keys) other) → has_name (bytes_of (match_ordering o (key ∷ first ∷ keys) (first ∷ keys) (first ∷ rest))) other ≡ (bytes_eq other key.items || has_name (bytes_of (first ∷ keys)) other)
by_order first keys rest key other Less is more = refl
by_order first keys rest key other Equal is more =
    let same : key.items ≡ first.items = (bytes_eq-Decides key.items first.items).0 (sym (is_eq-slice_cmp key.items first.items) ∙ ap is_eq is) in
    or_twice (bytes_eq other first.items) (has_name (bytes_of keys) other)
    ∙ ap (λ n. bytes_eq other n || (bytes_eq other first.items || has_name (bytes_of keys) other)) (sym same)
by_order first keys rest key other Greater is more =
    ap (λ b. bytes_eq other first.items || b) more
    ∙ or_exchange (bytes_eq other first.items) (bytes_eq other key.items) (has_name (bytes_of keys) other)

-- a set with one name more
pub with_key : (keys : List (Vec ℕ Global)) (key : Vec ℕ Global) (other : List ℕ) → has_name (bytes_of (insert_key in_order keys key)) other ≡ (bytes_eq other key.items || has_name (bytes_of keys) other)
with_key [] key other = refl
with_key (first ∷ keys) key other = by_order first keys (insert_key in_order keys key) key other (in_order key first) refl (with_key keys key other)

pub or_false : (b : Bool) → (b || false) ≡ b
or_false true = refl
or_false false = refl

pub not_not : (b : Bool) → not (not b) ≡ b
not_not true = refl
not_not false = refl
