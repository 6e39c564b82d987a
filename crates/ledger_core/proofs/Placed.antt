-- What a put and a removal leave of a list in order, by an entry in its middle.
use Rattle.std.proofs.Common.{◌≡◌, true, false, cond, not, List, [], ◌∷◌, ◌++◌, refl, ap, ◌∙◌, subst}
use Rattle.std.specs.Ordering.{is_eq, eq_by_cmp}
use Rattle.std.specs.declared.cmp.Ordering.{Ordering}
use Rattle.std.specs.declared.cmp.Ordering.TheVariants.{Less, Equal, Greater}
use Rattle.std.specs.FinMap.{put, is_sorted}
use Rattle.std.specs.FinMap.Entries.{by_order}
use Rattle.std.proofs.lemmas.List.Elements.{filter-append}
use Rattle.ledger_core.specs.Row.{Row, Entry}
use Rattle.ledger_core.specs.Place.{place_order}
use Rattle.ledger_core.specs.Tree.{without}
use Rattle.ledger_core.proofs.Sorted.{Key, Compares, around, above_each, under_each, tied_each}

put_past : (k : Key) (v : Row) (xs ys : List Entry) → Compares Greater k xs → put place_order k v (xs ++ ys) ≡ xs ++ put place_order k v ys
put_past k v [] ys a = refl
put_past k v (x ∷ xs) ys a =
    ap (λ o. by_order o ((k, v) ∷ x ∷ (xs ++ ys)) ((x.0, v) ∷ (xs ++ ys)) (x ∷ put place_order k v (xs ++ ys))) a.0
    ∙ ap (λ rest. x ∷ rest) (put_past k v xs ys a.1)

put_under : (k : Key) (v : Row) (xs : List Entry) (y : Entry) (ys : List Entry) → place_order k y.0 ≡ Less → put place_order k v (xs ++ y ∷ ys) ≡ put place_order k v xs ++ y ∷ ys
put_under k v [] y ys e = ap (λ o. by_order o ((k, v) ∷ y ∷ ys) ((y.0, v) ∷ ys) (y ∷ put place_order k v ys)) e
put_under k v (x ∷ xs) y ys e =
    elim (place_order k x.0) as (λ o. by_order o ((k, v) ∷ x ∷ (xs ++ y ∷ ys)) ((x.0, v) ∷ (xs ++ y ∷ ys)) (x ∷ put place_order k v (xs ++ y ∷ ys)) ≡ by_order o ((k, v) ∷ x ∷ xs) ((x.0, v) ∷ xs) (x ∷ put place_order k v xs) ++ y ∷ ys) [
      | Less ↦ refl
      | Equal ↦ refl
      | Greater ↦ ap (λ rest. x ∷ rest) (put_under k v xs y ys e)
    ]

pub put_left : (d l : List Entry) (x : Entry) (r : List Entry) (k : Key) (v : Row) → d ≡ l ++ x ∷ r → place_order k x.0 ≡ Less → put place_order k v d ≡ put place_order k v l ++ x ∷ r
put_left d l x r k v is e = ap (put place_order k v) is ∙ put_under k v l x r e

pub put_right : (d l : List Entry) (x : Entry) (r : List Entry) (k : Key) (v : Row) → d ≡ l ++ x ∷ r → is_sorted place_order d ≡ true → place_order k x.0 ≡ Greater → put place_order k v d ≡ l ++ x ∷ put place_order k v r
put_right d l x r k v is sorted e =
    let order = around l x r (subst (λ es. is_sorted place_order es ≡ true) is sorted) in
    ap (put place_order k v) is ∙ put_past k v l (x ∷ r) (above_each k x.0 l e order.before)
    ∙ ap (λ o. l ++ by_order o ((k, v) ∷ x ∷ r) ((x.0, v) ∷ r) (x ∷ put place_order k v r)) e

pub put_here : (d l : List Entry) (x : Entry) (r : List Entry) (k : Key) (v : Row) → d ≡ l ++ x ∷ r → is_sorted place_order d ≡ true → place_order k x.0 ≡ Equal → put place_order k v d ≡ l ++ (x.0, v) ∷ r
put_here d l x r k v is sorted e =
    let order = around l x r (subst (λ es. is_sorted place_order es ≡ true) is sorted) in
    ap (put place_order k v) is ∙ put_past k v l (x ∷ r) (tied_each Greater k x.0 l e order.before)
    ∙ ap (λ o. l ++ by_order o ((k, v) ∷ x ∷ r) ((x.0, v) ∷ r) (x ∷ put place_order k v r)) e

-- an entry that does not tie stays
without_other : (o : Ordering) (k : Key) (x : Entry) (xs : List Entry) → place_order k x.0 ≡ o → is_eq o ≡ false → without k (x ∷ xs) ≡ x ∷ without k xs
without_other o k x xs e ne = ap (λ b. cond (not b) (x ∷ without k xs) (without k xs)) (ap is_eq e ∙ ne)

without_none : (o : Ordering) (k : Key) (xs : List Entry) → is_eq o ≡ false → Compares o k xs → without k xs ≡ xs
without_none o k [] ne a = refl
without_none o k (x ∷ xs) ne a = without_other o k x xs a.0 ne ∙ ap (λ rest. x ∷ rest) (without_none o k xs ne a.1)

without-append : (k : Key) (xs ys : List Entry) → without k (xs ++ ys) ≡ without k xs ++ without k ys
without-append k xs ys = filter-append (λ entry. not (eq_by_cmp place_order k entry.0)) xs ys

pub without_left : (d l : List Entry) (x : Entry) (r : List Entry) (k : Key) → d ≡ l ++ x ∷ r → is_sorted place_order d ≡ true → place_order k x.0 ≡ Less → without k d ≡ without k l ++ x ∷ r
without_left d l x r k is sorted e =
    let order = around l x r (subst (λ es. is_sorted place_order es ≡ true) is sorted) in
    ap (without k) is ∙ without-append k l (x ∷ r) ∙ ap (λ rest. without k l ++ rest) (without_none Less k (x ∷ r) refl (e, under_each k x.0 r e order.behind))

pub without_right : (d l : List Entry) (x : Entry) (r : List Entry) (k : Key) → d ≡ l ++ x ∷ r → is_sorted place_order d ≡ true → place_order k x.0 ≡ Greater → without k d ≡ l ++ x ∷ without k r
without_right d l x r k is sorted e =
    let order = around l x r (subst (λ es. is_sorted place_order es ≡ true) is sorted) in
    ap (without k) is ∙ without-append k l (x ∷ r)
    ∙ ap (λ front. front ++ without k (x ∷ r)) (without_none Greater k l refl (above_each k x.0 l e order.before))
    ∙ ap (λ rest. l ++ rest) (without_other Greater k x r e refl)

pub without_here : (d l : List Entry) (x : Entry) (r : List Entry) (k : Key) → d ≡ l ++ x ∷ r → is_sorted place_order d ≡ true → place_order k x.0 ≡ Equal → without k d ≡ l ++ r
without_here d l x r k is sorted e =
    let order = around l x r (subst (λ es. is_sorted place_order es ≡ true) is sorted) in
    ap (without k) is ∙ without-append k l (x ∷ r)
    ∙ ap (λ front. front ++ without k (x ∷ r)) (without_none Greater k l refl (tied_each Greater k x.0 l e order.before))
    ∙ ap (λ b. l ++ cond (not b) (x ∷ without k r) (without k r)) (ap is_eq e)
    ∙ ap (λ rest. l ++ rest) (without_none Less k r refl (tied_each Less k x.0 r e order.behind))
