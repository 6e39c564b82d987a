-- Lists of entries in the order of their keys, around an entry in their middle.
use Rattle.std.proofs.Common.{◌≡◌, Bool, true, false, not, List, [], ◌∷◌, ◌++◌, refl, sym, ap, ◌∙◌, subst}
use Rattle.std.specs.Prelude.{◌&&◌, T}
use Rattle.std.specs.Ordering.{is_lt, is_gt, eq_by_cmp, ordering_reverse, ordering_then}
use Rattle.std.specs.declared.cmp.Ordering.{Ordering}
use Rattle.std.specs.declared.cmp.Ordering.TheVariants.{Less, Equal, Greater}
use Rattle.std.specs.Cmp.{IsTotalOrder}
use Rattle.std.specs.FinMap.{put, is_sorted, IsAntisymmetric, nat_cmp-IsAntisymmetric}
use Rattle.std.specs.FinMap.Entries.{below_all, is_sorted-put, is_sorted-where_key}
use Rattle.std.proofs.lemmas.Cmp.{nat_cmp_total, on_total, then_total}
use Rattle.std.proofs.lemmas.Bool.{and_parts, false≢true}
use Rattle.ledger_core.specs.Row.{Row, Entry}
use Rattle.ledger_core.specs.declared.place.Place.{Place}
use Rattle.ledger_core.specs.Place.{place_order}
use Rattle.ledger_core.specs.Tree.{without}
use Rattle.ledger_core.specs.Books.{put_all}

abbrev pub Key : Type 0
Key = Place

pub total : IsTotalOrder place_order
total = then_total (on_total (λ p. p.at) nat_cmp_total) (then_total (on_total (λ p. p.no) nat_cmp_total) (on_total (λ p. p.sub) nat_cmp_total))

tied_both : (o p : Ordering) → ordering_then o p ≡ Equal → (o ≡ Equal) × (p ≡ Equal)
tied_both Less p e = absurd (let f : is_lt Equal ≡ true = sym (ap is_lt e) in false≢true f)
tied_both Equal p e = (refl, e)
tied_both Greater p e = absurd (let f : is_gt Equal ≡ true = sym (ap is_gt e) in false≢true f)

pub antisymmetric : IsAntisymmetric place_order
antisymmetric a b e =
    let first = tied_both _ _ e in
    let second = tied_both _ _ first.1 in
    λ i. record { at = nat_cmp-IsAntisymmetric a.at b.at first.0 i; no = nat_cmp-IsAntisymmetric a.no b.no second.0 i; sub = nat_cmp-IsAntisymmetric a.sub b.sub second.1 i }

-- a key compares so with each of these keys
abbrev pub Compares : Ordering → Key → List Entry → Type 0
Compares o k [] = Unit {0}
Compares o k (x ∷ xs) = (place_order k x.0 ≡ o) × Compares o k xs

less : (o : Ordering) → is_lt o ≡ true → o ≡ Less
less Less e = refl
less Equal e = absurd (false≢true e)
less Greater e = absurd (false≢true e)

-- the other way round
pub turned : (a b : Key) (o : Ordering) → place_order a b ≡ o → place_order b a ≡ ordering_reverse o
turned a b o e = total.antisymm b a ∙ ap ordering_reverse e

pub below_each : (k : Key) (xs : List Entry) → below_all place_order k xs ≡ true → Compares Less k xs
below_each k [] e = tt
below_each k (x ∷ xs) e = let parts = and_parts _ _ e in (less _ parts.0, below_each k xs parts.1)

below_front : (k : Key) (xs ys : List Entry) → below_all place_order k (xs ++ ys) ≡ true → below_all place_order k xs ≡ true
below_front k [] ys e = refl
below_front k (x ∷ xs) ys e = let parts = and_parts _ _ e in ap (λ b. b && below_all place_order k xs) parts.0 ∙ below_front k xs ys parts.1

below_middle : (k : Key) (xs : List Entry) (y : Entry) (ys : List Entry) → below_all place_order k (xs ++ y ∷ ys) ≡ true → place_order k y.0 ≡ Less
below_middle k [] y ys e = less _ (and_parts _ _ e).0
below_middle k (x ∷ xs) y ys e = below_middle k xs y ys (and_parts _ _ e).1

-- what is in order around x
pub record Around (left : List Entry) (x : Entry) (right : List Entry) : Type 0 where
  pub before : Compares Greater x.0 left
  pub behind : Compares Less x.0 right
  pub left_sorted : is_sorted place_order left ≡ true
  pub right_sorted : is_sorted place_order right ≡ true

pub around : (left : List Entry) (x : Entry) (right : List Entry) → is_sorted place_order (left ++ x ∷ right) ≡ true → Around left x right
around [] x right e = let parts = and_parts _ _ e in record { before = tt; behind = below_each x.0 right parts.0; left_sorted = refl; right_sorted = parts.1 }
around (y ∷ left) x right e =
    let parts = and_parts _ _ e in
    let rest = around left x right parts.1 in
    record {
      before = (turned y.0 x.0 Less (below_middle y.0 left x right parts.0), rest.before);
      behind = rest.behind;
      left_sorted = ap (λ b. b && is_sorted place_order left) (below_front y.0 left (x ∷ right) parts.0) ∙ rest.left_sorted;
      right_sorted = rest.right_sorted;
    }

-- a key above x is above what x is above
pub above_each : (k x : Key) (xs : List Entry) → place_order k x ≡ Greater → Compares Greater x xs → Compares Greater k xs
above_each k x [] e a = tt
above_each k x (y ∷ xs) e a = (turned y.0 k Less (total.trans y.0 x k (turned x y.0 Greater a.0) (turned k x Greater e)), above_each k x xs e a.1)

-- a key below x is below what x is below
pub under_each : (k x : Key) (xs : List Entry) → place_order k x ≡ Less → Compares Less x xs → Compares Less k xs
under_each k x [] e a = tt
under_each k x (y ∷ xs) e a = (total.trans k x y.0 e a.0, under_each k x xs e a.1)

-- a key that ties with x compares as x does
pub tied_each : (o : Ordering) (k x : Key) (xs : List Entry) → place_order k x ≡ Equal → Compares o x xs → Compares o k xs
tied_each o k x xs e a = subst (λ key. Compares o key xs) (sym (antisymmetric k x e)) a

pub holds : (b : Bool) → b ≡ true → T b
holds b e = subst T (sym e) tt

shown : (b : Bool) → T b → b ≡ true
shown true h = refl
shown false h = absurd h

pub sorted_put : (es : List Entry) (k : Key) (row : Row) → is_sorted place_order es ≡ true → is_sorted place_order (put place_order k row es) ≡ true
sorted_put es k row sorted = shown _ (is_sorted-put place_order total k row es (holds _ sorted))

pub sorted_without : (es : List Entry) (k : Key) → is_sorted place_order es ≡ true → is_sorted place_order (without k es) ≡ true
sorted_without es k sorted = shown _ (is_sorted-where_key place_order (λ key. not (eq_by_cmp place_order k key)) es (holds _ sorted))

pub sorted_put_all : (xs es : List Entry) → is_sorted place_order es ≡ true → is_sorted place_order (put_all xs es) ≡ true
sorted_put_all [] es sorted = sorted
sorted_put_all (x ∷ xs) es sorted = sorted_put_all xs (put place_order x.0 x.1 es) (sorted_put es x.0 x.1 sorted)
