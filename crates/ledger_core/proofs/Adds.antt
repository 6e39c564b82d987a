-- A new message: its pairs behind the others, and their rows.
use Rattle.std.proofs.Common.{◌≡◌, ℕ, Bool, true, false, cond, List, [], ◌∷◌, ◌++◌, length, Option, Some, None, refl, sym, ap, subst, ◌∙◌, arith, append-nil, append_assoc}
use Rattle.std.specs.Prelude.{is_some, is_none, if◌then◌else◌}
use Rattle.std.specs.List.{flat_map}
use Rattle.std.specs.FinMap.{put}
use Rattle.std.proofs.lemmas.List.Sums.{sum_by-cons}
use Rattle.std.proofs.lemmas.List.Concat.{flat_map-cons}
use Rattle.ledger_core.specs.declared.plan.Aim.{Aim}
use Rattle.ledger_core.specs.declared.plan.Plan.{Plan}
use Rattle.ledger_core.specs.Place.{place_order}
use Rattle.ledger_core.specs.Row.{Entry}
use Rattle.ledger_core.specs.Size.{path_bytes, new_rows, new_drops, new_bytes}
use Rattle.ledger_core.specs.Message.{is_pair}
use Rattle.ledger_core.specs.Standing.{Standing, Status, owed, dropped, status_in}
use Rattle.ledger_core.specs.Course.{count_of, is_owed, is_dropped, standing_at, bytes_in}
use Rattle.ledger_core.specs.Books.{row_for, slotted, numbered, IsIndex, put_all}
use Rattle.ledger_core.specs.After.{fresh, fresh_one, entry_at, AreDistinct}
use Rattle.ledger_core.proofs.Counts.{unit, weight}
use Rattle.ledger_core.proofs.Indexes.{look_put, look_same}
use Rattle.ledger_core.proofs.Lookups.{standing_at-append, or_else, is_pair_itself, is_pair_parts}
use Rattle.ledger_core.proofs.Moves.{look_of}

-- one more pair is seen, and the others as before
one_more : (m sub : ℕ) (book : List Standing) (x : Standing) → (m ≡ x.pair.no → sub ≡ x.pair.sub → ⊥) → standing_at m sub (book ++ x ∷ []) ≡ standing_at m sub book
one_more m sub book x apart = standing_at-append m sub book (x ∷ []) ∙ ap (λ b. or_else (standing_at m sub book) (cond b (Some x) None)) no_pair ∙ end (standing_at m sub book)
  where
    end : (o : Option Standing) → or_else o None ≡ o
    end None = refl
    end (Some s) = refl

    no_pair : is_pair m sub x.pair ≡ false
    no_pair =
        elim (is_pair m sub x.pair) as (λ b. is_pair m sub x.pair ≡ b → b ≡ false) [
          | true ↦ λ t. let parts = is_pair_parts m sub x.pair t in absurd (apart (sym parts.0) (sym parts.1))
          | false ↦ λ t. refl
        ] refl

the_new : (book : List Standing) (x : Standing) → standing_at x.pair.no x.pair.sub book ≡ None → standing_at x.pair.no x.pair.sub (book ++ x ∷ []) ≡ Some x
the_new book x none =
    standing_at-append x.pair.no x.pair.sub book (x ∷ [])
    ∙ ap (λ o. or_else o (cond (is_pair x.pair.no x.pair.sub x.pair) (Some x) None)) none
    ∙ ap (λ b. cond b (Some x) None) (is_pair_itself x.pair)

pub index_add : (plans : List Plan) (slot : Standing → Option ℕ) (book : List Standing) (x : Standing) (entries : List Entry) (o : Option ℕ) → standing_at x.pair.no x.pair.sub book ≡ None → slot x ≡ o → IsIndex plans slot book entries
    → IsIndex plans slot (book ++ x ∷ []) (put_all (entry_at plans x o) entries)
index_add plans slot book x entries (Some a) none slot_is index =
    look_put (look_of plans slot book) (look_of plans slot (book ++ x ∷ [])) entries a x.pair.no x.pair.sub (row_for plans x) index
    (ap (slotted plans slot) none)
    (ap (slotted plans slot) (the_new book x none) ∙ ap (numbered (row_for plans x)) slot_is)
    (λ m sub apart. ap (slotted plans slot) (one_more m sub book x apart))
index_add plans slot book x entries None none slot_is index =
    look_same (look_of plans slot book) (look_of plans slot (book ++ x ∷ [])) entries index (λ m sub. same m sub)
  where
    same : (m sub : ℕ) → look_of plans slot (book ++ x ∷ []) m sub ≡ look_of plans slot book m sub
    same m sub =
        elim (is_pair m sub x.pair) as (λ b. is_pair m sub x.pair ≡ b → look_of plans slot (book ++ x ∷ []) m sub ≡ look_of plans slot book m sub) [
          | true ↦ λ t.
              let parts = is_pair_parts m sub x.pair t in
              subst (λ n. look_of plans slot (book ++ x ∷ []) n sub ≡ look_of plans slot book n sub) parts.0
              (subst (λ n. look_of plans slot (book ++ x ∷ []) x.pair.no n ≡ look_of plans slot book x.pair.no n) parts.1
              (ap (slotted plans slot) (the_new book x none) ∙ ap (numbered (row_for plans x)) slot_is ∙ sym (ap (slotted plans slot) none)))
          | false ↦ λ t. ap (slotted plans slot) (standing_at-append m sub book (x ∷ []) ∙ ap (λ b. or_else (standing_at m sub book) (cond b (Some x) None)) t ∙ end (standing_at m sub book))
        ] refl
      where
        end : (o : Option Standing) → or_else o None ≡ o
        end None = refl
        end (Some s) = refl

-- ---- the pairs of a new message, one after the other

put_all-append : (xs ys entries : List Entry) → put_all (xs ++ ys) entries ≡ put_all ys (put_all xs entries)
put_all-append [] ys entries = refl
put_all-append (x ∷ xs) ys entries = put_all-append xs ys (put place_order x.0 x.1 entries)

-- all entries of pairs, by the slots of an index
abbrev pub slot_entries : List Plan → (Standing → Option ℕ) → List Standing → List Entry
slot_entries plans slot xs = flat_map (λ s. entry_at plans s (slot s)) xs

pub index_adds : (plans : List Plan) (slot : Standing → Option ℕ) (xs book : List Standing) (entries : List Entry) → AreDistinct xs → ((m sub : ℕ) (s : Standing) → standing_at m sub xs ≡ Some s → standing_at m sub book ≡ None) → IsIndex plans slot book entries
    → IsIndex plans slot (book ++ xs) (put_all (slot_entries plans slot xs) entries)
index_adds plans slot [] book entries distinct apart index = subst (λ b. IsIndex plans slot b entries) (sym (append-nil book)) index
index_adds plans slot (x ∷ xs) book entries distinct apart index =
    subst (λ b. IsIndex plans slot b (put_all (slot_entries plans slot (x ∷ xs)) entries)) (append_assoc book (x ∷ []) xs)
    (subst (IsIndex plans slot ((book ++ x ∷ []) ++ xs)) (sym (ap (λ es. put_all es entries) (flat_map-cons (λ s. entry_at plans s (slot s)) x xs) ∙ put_all-append (entry_at plans x (slot x)) (slot_entries plans slot xs) entries))
    (index_adds plans slot xs (book ++ x ∷ []) (put_all (entry_at plans x (slot x)) entries) distinct.1 rest
    (index_add plans slot book x entries (slot x) (apart x.pair.no x.pair.sub x (ap (λ b. cond b (Some x) (standing_at x.pair.no x.pair.sub xs)) (is_pair_itself x.pair))) refl index)))
  where
    rest : (m sub : ℕ) (s : Standing) → standing_at m sub xs ≡ Some s → standing_at m sub (book ++ x ∷ []) ≡ None
    rest m sub s e =
        elim (is_pair m sub x.pair) as (λ b. is_pair m sub x.pair ≡ b → standing_at m sub (book ++ x ∷ []) ≡ None) [
          | true ↦ λ t.
              let parts = is_pair_parts m sub x.pair t in
              absurd (Rattle.std.proofs.lemmas.Option.none-some s (sym distinct.0 ∙ ap (λ n. standing_at n x.pair.sub xs) parts.0 ∙ ap (λ n. standing_at m n xs) parts.1 ∙ e))
          | false ↦ λ t.
              standing_at-append m sub book (x ∷ [])
              ∙ ap (λ b. or_else (standing_at m sub book) (cond b (Some x) None)) t
              ∙ ap (λ o. or_else o None) (apart m sub s (ap (λ b. cond b (Some x) (standing_at m sub xs)) t ∙ e))
        ] refl

-- ---- what they count

fresh_owed : (path : Option (List ℕ)) → ◌≡◌ {A = ℕ} (cond (is_owed (status_in path None)) 1 0) (cond (is_some path) 1 0)
fresh_owed None = refl
fresh_owed (Some path) = refl

pub fresh_rows : (n : ℕ) (event : List ℕ) (hops now : ℕ) (aims : List Aim) → count_of is_owed (fresh n event hops now aims) ≡ new_rows aims
fresh_rows n event hops now [] = refl
fresh_rows n event hops now (aim ∷ aims) =
    let a = sum_by-cons (unit is_owed) (fresh_one n event hops now aim) (fresh n event hops now aims) in
    let b = sum_by-cons (λ (aim : Aim). cond (is_some aim.path) 1 0) aim aims in
    let c = fresh_owed aim.path in
    let d = fresh_rows n event hops now aims in
    omega (arith, a, b, c, d)

fresh_dropped : (path : Option (List ℕ)) → ◌≡◌ {A = ℕ} (cond (is_dropped (status_in path None)) 1 0) (cond (is_none path) 1 0)
fresh_dropped None = refl
fresh_dropped (Some path) = refl

pub fresh_drops : (n : ℕ) (event : List ℕ) (hops now : ℕ) (aims : List Aim) → count_of is_dropped (fresh n event hops now aims) ≡ new_drops aims
fresh_drops n event hops now [] = refl
fresh_drops n event hops now (aim ∷ aims) =
    let a = sum_by-cons (unit is_dropped) (fresh_one n event hops now aim) (fresh n event hops now aims) in
    let b = sum_by-cons (λ (aim : Aim). cond (is_none aim.path) 1 0) aim aims in
    let c = fresh_dropped aim.path in
    let d = fresh_drops n event hops now aims in
    omega (arith, a, b, c, d)

fresh_neither : (is : Status → Bool) → is owed ≡ false → is dropped ≡ false → (path : Option (List ℕ)) → is (status_in path None) ≡ false
fresh_neither is e f None = f
fresh_neither is e f (Some path) = e

pub fresh_nothing : (is : Status → Bool) → is owed ≡ false → is dropped ≡ false → (n : ℕ) (event : List ℕ) (hops now : ℕ) (aims : List Aim) → count_of is (fresh n event hops now aims) ≡ 0
fresh_nothing is e f n event hops now [] = refl
fresh_nothing is e f n event hops now (aim ∷ aims) =
    let a = sum_by-cons (unit is) (fresh_one n event hops now aim) (fresh n event hops now aims) in
    let none : unit is (fresh_one n event hops now aim) ≡ 0 = ap (λ b. cond b 1 0) (fresh_neither is e f aim.path) in
    let d = fresh_nothing is e f n event hops now aims in
    omega (arith, a, none, d)

fresh_weight : (event : List ℕ) (path : Option (List ℕ)) → ◌≡◌ {A = ℕ} (if is_owed (status_in path None) then path_bytes (length event) path else 0) (path_bytes (length event) path)
fresh_weight event None = refl
fresh_weight event (Some path) = refl

pub fresh_bytes : (n : ℕ) (event : List ℕ) (hops now : ℕ) (aims : List Aim) → bytes_in (fresh n event hops now aims) ≡ new_bytes (length event) aims
fresh_bytes n event hops now [] = refl
fresh_bytes n event hops now (aim ∷ aims) =
    let a = sum_by-cons weight (fresh_one n event hops now aim) (fresh n event hops now aims) in
    let b = sum_by-cons (λ (aim : Aim). path_bytes (length event) aim.path) aim aims in
    let c = fresh_weight event aim.path in
    let d = fresh_bytes n event hops now aims in
    omega (arith, a, b, c, d)
