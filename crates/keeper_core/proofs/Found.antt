-- What is found in a list in order, by an entry in its middle.
use Rattle.std.proofs.Common.{◌≡◌, true, false, cond, List, [], ◌∷◌, ◌++◌, Some, None, refl, ap, ◌∙◌, subst}
use Rattle.std.specs.Ordering.{is_eq, eq_by_cmp}
use Rattle.std.specs.declared.cmp.Ordering.{Ordering}
use Rattle.std.specs.declared.cmp.Ordering.TheVariants.{Less, Greater}
use Rattle.std.specs.FinMap.{find, is_sorted}
use Rattle.keeper_core.specs.Rows.{Entry, byte_order}
use Rattle.keeper_core.proofs.Sorted.{Key, Compares, around, above_each, under_each}

-- at an entry that does not tie
find_other : (o : Ordering) (k : Key) (x : Entry) (xs : List Entry) → byte_order k x.0 ≡ o → is_eq o ≡ false → find byte_order k (x ∷ xs) ≡ find byte_order k xs
find_other o k x xs e ne = ap (λ b. cond b (Some x.1) (find byte_order k xs)) (ap is_eq e ∙ ne)

find_past : (k : Key) (xs ys : List Entry) → Compares Greater k xs → find byte_order k (xs ++ ys) ≡ find byte_order k ys
find_past k [] ys a = refl
find_past k (x ∷ xs) ys a = find_other Greater k x (xs ++ ys) a.0 refl ∙ find_past k xs ys a.1

pub find_under : (k : Key) (xs : List Entry) → Compares Less k xs → find byte_order k xs ≡ None
find_under k [] a = refl
find_under k (x ∷ xs) a = find_other Less k x xs a.0 refl ∙ find_under k xs a.1

find_front : (k : Key) (xs ys : List Entry) → Compares Less k ys → find byte_order k (xs ++ ys) ≡ find byte_order k xs
find_front k [] ys a = find_under k ys a
find_front k (x ∷ xs) ys a = ap (λ rest. cond (eq_by_cmp byte_order k x.0) (Some x.1) rest) (find_front k xs ys a)

pub found_left : (d l : List Entry) (x : Entry) (r : List Entry) (k : Key) → d ≡ l ++ x ∷ r → is_sorted byte_order d ≡ true → byte_order k x.0 ≡ Less → find byte_order k d ≡ find byte_order k l
found_left d l x r k is sorted e =
    let order = around l x r (subst (λ es. is_sorted byte_order es ≡ true) is sorted) in
    ap (find byte_order k) is ∙ find_front k l (x ∷ r) (e, under_each k x.0 r e order.behind)

pub found_right : (d l : List Entry) (x : Entry) (r : List Entry) (k : Key) → d ≡ l ++ x ∷ r → is_sorted byte_order d ≡ true → byte_order k x.0 ≡ Greater → find byte_order k d ≡ find byte_order k r
found_right d l x r k is sorted e =
    let order = around l x r (subst (λ es. is_sorted byte_order es ≡ true) is sorted) in
    ap (find byte_order k) is ∙ find_past k l (x ∷ r) (above_each k x.0 l e order.before) ∙ find_other Greater k x r e refl

-- both parts of a list in order are in order
pub left_sorted : (d l : List Entry) (x : Entry) (r : List Entry) → d ≡ l ++ x ∷ r → is_sorted byte_order d ≡ true → is_sorted byte_order l ≡ true
left_sorted d l x r is sorted = (around l x r (subst (λ es. is_sorted byte_order es ≡ true) is sorted)).left_sorted

pub right_sorted : (d l : List Entry) (x : Entry) (r : List Entry) → d ≡ l ++ x ∷ r → is_sorted byte_order d ≡ true → is_sorted byte_order r ≡ true
right_sorted d l x r is sorted = (around l x r (subst (λ es. is_sorted byte_order es ≡ true) is sorted)).right_sorted
