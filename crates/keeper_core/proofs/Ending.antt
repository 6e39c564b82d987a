-- Those of a list of entries in order that have an end, and which of them have lapsed.
use Rattle.std.proofs.Common.{◌≡◌, ℕ, true, false, cond, not, List, [], ◌∷◌, Option, Some, None, refl, sym, ap, ◌∙◌}
use Rattle.std.specs.Prelude.{◌&&◌, ◌||◌, ◌==◌, nat_lt}
use Rattle.std.specs.List.{filter}
use Rattle.std.specs.Ordering.{is_eq, eq_by_cmp}
use Rattle.std.specs.declared.cmp.Ordering.TheVariants.{Less, Equal, Greater}
use Rattle.std.specs.FinMap.{find, is_sorted}
use Rattle.std.specs.FinMap.Entries.{below_all, same_entries}
use Rattle.std.proofs.lemmas.Bool.{and_parts}
use Rattle.keeper_core.specs.Rows.{Row, Entry, byte_order, is_live, lapsed_in, is_behind}
use Rattle.keeper_core.proofs.Sorted.{Key, total, antisymmetric, below_each, tied_each}
use Rattle.keeper_core.proofs.Found.{find_under}
use Rattle.keeper_core.proofs.Lapsed.{lapsed_cons}
use Rattle.keeper_core.proofs.Table.{holds, over_cond}

-- those that have an end
abbrev pub ending : List Entry → List Entry
ending entries = filter (λ entry. not (entry.1.until == 0)) entries

-- a row that has an end
abbrev pub ending_row : Option Row → Option Row
ending_row None = None
ending_row (Some row) = cond (row.until == 0) None (Some row)

below-ending : (k : Key) (xs : List Entry) → below_all byte_order k xs ≡ true → below_all byte_order k (ending xs) ≡ true
below-ending k [] e = refl
below-ending k (x ∷ xs) e =
    let parts = and_parts _ _ e in
    elim (x.1.until == 0) as (λ b. below_all byte_order k (cond (not b) (x ∷ ending xs) (ending xs)) ≡ true) [
      | true ↦ below-ending k xs parts.1
      | false ↦ ap (λ b. b && below_all byte_order k (ending xs)) parts.0 ∙ below-ending k xs parts.1
    ]

pub sorted-ending : (xs : List Entry) → is_sorted byte_order xs ≡ true → is_sorted byte_order (ending xs) ≡ true
sorted-ending [] e = refl
sorted-ending (x ∷ xs) e =
    let parts = and_parts _ _ e in
    elim (x.1.until == 0) as (λ b. is_sorted byte_order (cond (not b) (x ∷ ending xs) (ending xs)) ≡ true) [
      | true ↦ sorted-ending xs parts.1
      | false ↦ ap (λ b. b && is_sorted byte_order (ending xs)) (below-ending x.0 xs parts.0) ∙ sorted-ending xs parts.1
    ]

pub find-ending : (k : Key) (xs : List Entry) → is_sorted byte_order xs ≡ true → find byte_order k (ending xs) ≡ ending_row (find byte_order k xs)
find-ending k [] sorted = refl
find-ending k (x ∷ xs) sorted =
    let parts : (below_all byte_order x.0 xs ≡ true) × (is_sorted byte_order xs ≡ true) = and_parts _ _ sorted in
    let rest = find-ending k xs parts.1 in
    elim (x.1.until == 0) as (λ b. (x.1.until == 0) ≡ b → find byte_order k (cond (not b) (x ∷ ending xs) (ending xs)) ≡ ending_row (cond (eq_by_cmp byte_order k x.0) (Some x.1) (find byte_order k xs))) [
      | true ↦ λ lasting. elim (byte_order k x.0) as (λ o. byte_order k x.0 ≡ o → find byte_order k (ending xs) ≡ ending_row (cond (is_eq o) (Some x.1) (find byte_order k xs))) [
        | Less ↦ λ e. rest
        | Equal ↦ λ e. rest ∙ ap ending_row (find_under k xs (tied_each Less k x.0 xs e (below_each x.0 xs parts.0))) ∙ ap (λ t. cond t None (Some x.1)) (sym lasting)
        | Greater ↦ λ e. rest
      ] refl
      | false ↦ λ ends. ap (cond (eq_by_cmp byte_order k x.0) (Some x.1)) rest ∙ ap (λ t. cond (eq_by_cmp byte_order k x.0) (cond t None (Some x.1)) (ending_row (find byte_order k xs))) (sym ends) ∙ over_cond ending_row (eq_by_cmp byte_order k x.0) (Some x.1) (find byte_order k xs)
    ] refl

-- lists in order in which each key has the same
pub same : (es fs : List Entry) → is_sorted byte_order es ≡ true → is_sorted byte_order fs ≡ true → ((q : Key) → find byte_order q es ≡ find byte_order q fs) → es ≡ fs
same es fs g h is = same_entries byte_order total antisymmetric es fs (holds _ g) (holds _ h) is

-- with one more
pub lapsed_one : (moment : ℕ) (key : Key) (row other : Row) (es xs : List Entry) → is_live moment row ≡ is_live moment other → lapsed_in moment es ≡ lapsed_in moment xs → lapsed_in moment ((key, row) ∷ es) ≡ lapsed_in moment ((key, other) ∷ xs)
lapsed_one moment key row other es xs live rest = lapsed_cons moment (key, row) es ∙ (λ i. cond (live i) (rest i) (key ∷ rest i)) ∙ sym (lapsed_cons moment (key, other) xs)

-- with one more that is live for ever
lapsed_lasting : (moment : ℕ) (x : Entry) (xs : List Entry) → (x.1.until == 0) ≡ true → lapsed_in moment (x ∷ xs) ≡ lapsed_in moment xs
lapsed_lasting moment x xs lasting = lapsed_cons moment x xs ∙ ap (λ b. cond (b || nat_lt moment x.1.until) (lapsed_in moment xs) (x.0 ∷ lapsed_in moment xs)) lasting

-- a row without an end has not lapsed
pub lapsed-ending : (moment : ℕ) (xs : List Entry) → lapsed_in moment (ending xs) ≡ lapsed_in moment xs
lapsed-ending moment [] = refl
lapsed-ending moment (x ∷ xs) =
    elim (x.1.until == 0) as (λ b. (x.1.until == 0) ≡ b → lapsed_in moment (cond (not b) (x ∷ ending xs) (ending xs)) ≡ lapsed_in moment (x ∷ xs)) [
      | true ↦ λ lasting. lapsed-ending moment xs ∙ sym (lapsed_lasting moment x xs lasting)
      | false ↦ λ ends. lapsed_one moment x.0 x.1 x.1 (ending xs) xs refl (lapsed-ending moment xs)
    ] refl

-- each key is behind none
pub behind_none : (keys : List Key) → filter (is_behind None) keys ≡ keys
behind_none [] = refl
behind_none (k ∷ ks) = ap (λ rest. k ∷ rest) (behind_none ks)
