-- Entries by their places, after a put and a removal.
use Rattle.std.proofs.Common.{◌≡◌, ℕ, Bool, true, false, cond, not, List, Option, Some, None, refl, sym, ap, subst, ◌∙◌, ⊎_elim}
use Rattle.std.specs.Prelude.{◌==◌}
use Rattle.std.specs.Ordering.{is_eq, eq_by_cmp}
use Rattle.std.specs.declared.cmp.Ordering.{Ordering}
use Rattle.std.specs.declared.cmp.Ordering.TheVariants.{Less, Equal, Greater}
use Rattle.std.specs.Cmp.{alike_right, eq_by_cmp_equiv}
use Rattle.std.specs.FinMap.{find, put}
use Rattle.std.specs.FinMap.Entries.{find-put, find-where_key}
use Rattle.std.proofs.lemmas.Cmp.{tied_itself}
use Rattle.std.proofs.lemmas.Bool.{cases_eq, eq-eqb, ne_eqb, false≢true}
use Rattle.ledger_core.specs.declared.place.Place.{Place}
use Rattle.ledger_core.specs.Place.{place_order}
use Rattle.ledger_core.specs.Row.{Row, Entry}
use Rattle.ledger_core.specs.Tree.{without}
use Rattle.ledger_core.specs.Books.{row_at}
use Rattle.ledger_core.proofs.Sorted.{total, antisymmetric}

equal : (o : Ordering) → is_eq o ≡ true → o ≡ Equal
equal Less e = absurd (false≢true e)
equal Equal e = refl
equal Greater e = absurd (false≢true e)

pub same_place : (p q : Place) → eq_by_cmp place_order p q ≡ true → p ≡ q
same_place p q e = antisymmetric p q (equal _ e)

pub place_itself : (p q : Place) → p ≡ q → eq_by_cmp place_order p q ≡ true
place_itself p q e = subst (λ r. eq_by_cmp place_order p r ≡ true) e (ap is_eq (tied_itself total p))

switched : (b : Bool) (x y : Option Row) → cond (not b) x y ≡ cond b y x
switched true x y = refl
switched false x y = refl

pub put_at : (q p : Place) (row : Row) (es : List Entry) → find place_order q (put place_order p row es) ≡ cond (eq_by_cmp place_order q p) (Some row) (find place_order q es)
put_at q p row es = find-put place_order total q p row es

pub without_at : (q p : Place) (es : List Entry) → find place_order q (without p es) ≡ cond (eq_by_cmp place_order q p) None (find place_order q es)
without_at q p es =
    find-where_key place_order (λ key. not (eq_by_cmp place_order p key)) q (λ x t. ap (λ r. not (is_eq r)) (sym (alike_right total q x p t))) es
    ∙ switched (eq_by_cmp place_order p q) _ _
    ∙ ap (λ b. cond b None (find place_order q es)) ((eq_by_cmp_equiv total).symm p q)

-- ---- entries as what they show at each message and subscription

abbrev pub spot : ℕ → ℕ → ℕ → Place
spot at m sub = record { at = at; no = m; sub = sub }

abbrev pub Look : Type 0
Look = ℕ → ℕ → Option (ℕ × Row)

abbrev pub IsLook : Look → List Entry → Type 0
IsLook look es = (at m sub : ℕ) → find place_order (spot at m sub) es ≡ row_at at (look m sub)

abbrev pub OthersStay : Look → Look → ℕ → ℕ → Type 0
OthersStay look look' k j = (m sub : ℕ) → (m ≡ k → sub ≡ j → ⊥) → look' m sub ≡ look m sub

-- a place of another pair
apart_places : (at a m sub k j : ℕ) → (m ≡ k → sub ≡ j → ⊥) → eq_by_cmp place_order (spot at m sub) (spot a k j) ≡ false
apart_places at a m sub k j apart =
    elim (eq_by_cmp place_order (spot at m sub) (spot a k j)) as (λ b. eq_by_cmp place_order (spot at m sub) (spot a k j) ≡ b → b ≡ false) [
      | true ↦ λ t. let same = same_place (spot at m sub) (spot a k j) t in absurd (apart (ap (λ (p : Place). p.no) same) (ap (λ (p : Place). p.sub) same))
      | false ↦ λ t. refl
    ] refl

apart_numbers : (at a k j : ℕ) → (a ≡ at → ⊥) → eq_by_cmp place_order (spot at k j) (spot a k j) ≡ false
apart_numbers at a k j apart =
    elim (eq_by_cmp place_order (spot at k j) (spot a k j)) as (λ b. eq_by_cmp place_order (spot at k j) (spot a k j) ≡ b → b ≡ false) [
      | true ↦ λ t. absurd (apart (sym (ap (λ (p : Place). p.at) (same_place (spot at k j) (spot a k j) t))))
      | false ↦ λ t. refl
    ] refl

both_none : (b : Bool) (o : Option Row) → o ≡ None → cond b None o ≡ None
both_none true o e = refl
both_none false o e = e

-- by whether it is the pair k, j
pub by_pair : (P : ℕ → ℕ → Type 0) (k j m sub : ℕ) → P k j → ((m ≡ k → sub ≡ j → ⊥) → P m sub) → P m sub
by_pair P k j m sub here there =
    ⊎_elim (λ (e : m ≡ k).
    ⊎_elim (λ (f : sub ≡ j). subst (λ n. P n sub) (sym e) (subst (λ n. P k n) (sym f) here)) (λ g. there (λ _ f. g f)) (cases_eq sub j))
    (λ g. there (λ e _. g e)) (cases_eq m k)

pub look_put : (look look' : Look) (es : List Entry) (a k j : ℕ) (row : Row) → IsLook look es → look k j ≡ None → look' k j ≡ Some (a, row) → OthersStay look look' k j
    → IsLook look' (put place_order (spot a k j) row es)
look_put look look' es a k j row is none some others at m sub =
    by_pair (λ n s. find place_order (spot at n s) (put place_order (spot a k j) row es) ≡ row_at at (look' n s)) k j m sub
    (put_at (spot at k j) (spot a k j) row es ∙ here ∙ ap (row_at at) (sym some))
    (λ apart. put_at (spot at m sub) (spot a k j) row es ∙ ap (λ b. cond b (Some row) (find place_order (spot at m sub) es)) (apart_places at a m sub k j apart) ∙ is at m sub ∙ ap (row_at at) (sym (others m sub apart)))
  where
    here : cond (eq_by_cmp place_order (spot at k j) (spot a k j)) (Some row) (find place_order (spot at k j) es) ≡ cond (a == at) (Some row) None
    here =
        ⊎_elim
        (λ (e : a ≡ at).
        ap (λ b. cond b (Some row) (find place_order (spot at k j) es)) (place_itself (spot at k j) (spot a k j) (ap (λ n. spot n k j) (sym e)))
        ∙ sym (ap (λ b. cond b (Some row) None) (eq-eqb a at e)))
        (λ g.
        ap (λ b. cond b (Some row) (find place_order (spot at k j) es)) (apart_numbers at a k j g)
        ∙ is at k j ∙ ap (row_at at) none ∙ sym (ap (λ b. cond b (Some row) None) (ne_eqb a at g)))
        (cases_eq a at)

pub look_out : (look look' : Look) (es : List Entry) (a k j : ℕ) (row : Row) → IsLook look es → look k j ≡ Some (a, row) → look' k j ≡ None → OthersStay look look' k j
    → IsLook look' (without (spot a k j) es)
look_out look look' es a k j row is some none others at m sub =
    by_pair (λ n s. find place_order (spot at n s) (without (spot a k j) es) ≡ row_at at (look' n s)) k j m sub
    (without_at (spot at k j) (spot a k j) es ∙ here ∙ ap (row_at at) (sym none))
    (λ apart. without_at (spot at m sub) (spot a k j) es ∙ ap (λ b. cond b None (find place_order (spot at m sub) es)) (apart_places at a m sub k j apart) ∙ is at m sub ∙ ap (row_at at) (sym (others m sub apart)))
  where
    here : cond (eq_by_cmp place_order (spot at k j) (spot a k j)) None (find place_order (spot at k j) es) ≡ None
    here =
        ⊎_elim
        (λ (e : a ≡ at).
        ap (λ b. cond b None (find place_order (spot at k j) es)) (place_itself (spot at k j) (spot a k j) (ap (λ n. spot n k j) (sym e))))
        (λ g. both_none _ _ (is at k j ∙ ap (row_at at) some ∙ ap (λ b. cond b (Some row) None) (ne_eqb a at g)))
        (cases_eq a at)

pub look_same : (look look' : Look) (es : List Entry) → IsLook look es → ((m sub : ℕ) → look' m sub ≡ look m sub) → IsLook look' es
look_same look look' es is same at m sub = is at m sub ∙ ap (row_at at) (sym (same m sub))
