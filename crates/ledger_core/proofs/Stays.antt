-- Entries that change no standing, and the first of the rows that wait.
use Rattle.std.proofs.Common.{◌≡◌, ◌+◌, ◌<◌, ◌≤◌, ℕ, Bool, true, false, cond, List, [], ◌∷◌, ◌++◌, map, Option, Some, None, refl, sym, ap, subst, ◌∙◌, arith, ⊎_elim, append-nil, add-zero}
use Rattle.std.specs.Prelude.{◌==◌, if◌then◌else◌}
use Rattle.std.specs.Ordering.{is_gt, nat_cmp, ordering_then, eq_by_cmp}
use Rattle.std.specs.declared.cmp.Ordering.{Ordering}
use Rattle.std.specs.declared.cmp.Ordering.TheVariants.{Less, Equal, Greater}
use Rattle.std.specs.FinMap.{find, is_sorted}
use Rattle.std.proofs.lemmas.Bool.{and_parts, false≢true, cases_lt, le-ltb, ne_eqb, eq-eqb, eqb-true}
use Rattle.std.proofs.lemmas.Option.{none-some, cond_some}
use Rattle.ledger_core.specs.declared.place.Place.{Place}
use Rattle.ledger_core.specs.declared.plan.Plan.{Plan}
use Rattle.ledger_core.specs.declared.command.LedgerCmd.{LedgerCmd}
use Rattle.ledger_core.specs.declared.reply.LedgerReply.{LedgerReply}
use Rattle.ledger_core.specs.Place.{place_order}
use Rattle.ledger_core.specs.Row.{Row, Entry}
use Rattle.ledger_core.specs.Standing.{Standing}
use Rattle.ledger_core.specs.Course.{Course, standing_at, is_claim, is_waiting, place_of}
use Rattle.ledger_core.specs.Books.{row_for, slotted, numbered, IsIndex, row_at, waiting_slot}
use Rattle.ledger_core.specs.After.{moved, fresh_by, added_by, course_after}
use Rattle.ledger_core.proofs.Sorted.{Compares, below_each}
use Rattle.ledger_core.proofs.Indexes.{place_itself, same_place}
use Rattle.ledger_core.proofs.Lookups.{standing_at_own}
use Rattle.ledger_core.proofs.Moves.{map_same}

-- an entry that moves nothing leaves the course
pub stays : (course : Course) (cmd : LedgerCmd) (reply : LedgerReply) → ((s : Standing) → moved cmd reply s ≡ s) → fresh_by course cmd reply ≡ [] → added_by course cmd reply ≡ 0 → is_claim reply ≡ false → course_after course cmd reply ≡ course
stays course cmd reply same none zero no_claim =
    λ i. record { made = made i; claims = claims i; book = book i }
  where
    made : course.made + added_by course cmd reply ≡ course.made
    made = omega (arith, zero)

    claims : course.claims + (if is_claim reply then 1 else 0) ≡ course.claims
    claims = ap (λ b. course.claims + (if b then 1 else 0)) no_claim ∙ add-zero course.claims

    book : map (moved cmd reply) course.book ++ fresh_by course cmd reply ≡ course.book
    book = ap (λ xs. map (moved cmd reply) course.book ++ xs) none ∙ append-nil (map (moved cmd reply) course.book) ∙ map_same (moved cmd reply) same course.book

-- ---- the first row

pub record FirstRow (plans : List Plan) (book : List Standing) (x : Entry) : Type 0 where
  pub s : Standing
  pub there : standing_at x.0.no x.0.sub book ≡ Some s
  pub waits : is_waiting s ≡ true
  pub due_is : s.due ≡ x.0.at
  pub row_is : row_for plans s ≡ x.1

pub first_row : (plans : List Plan) (book : List Standing) (entries : List Entry) (x : Entry) (rest : List Entry) → IsIndex plans waiting_slot book entries → entries ≡ x ∷ rest → FirstRow plans book x
first_row plans book entries x rest index is = by_option (standing_at x.0.no x.0.sub book) refl (sym found ∙ index x.0.at x.0.no x.0.sub)
  where
    found : find place_order x.0 entries ≡ Some x.1
    found = ap (find place_order x.0) is ∙ ap (λ b. cond b (Some x.1) (find place_order x.0 rest)) (place_itself x.0 x.0 refl)

    by_waiting : (s : Standing) (b : Bool) → is_waiting s ≡ b → standing_at x.0.no x.0.sub book ≡ Some s → Some x.1 ≡ row_at x.0.at (numbered (row_for plans s) (if b then Some s.due else None)) → FirstRow plans book x
    by_waiting s true w e f =
        let parts = cond_some (s.due == x.0.at) (row_for plans s) x.1 (sym f) in
        record { s = s; there = e; waits = w; due_is = eqb-true s.due x.0.at parts.0; row_is = parts.1 }
    by_waiting s false w e f = absurd (none-some x.1 (sym f))

    by_option : (o : Option Standing) → standing_at x.0.no x.0.sub book ≡ o → Some x.1 ≡ row_at x.0.at (slotted plans waiting_slot o) → FirstRow plans book x
    by_option None e f = absurd (none-some x.1 (sym f))
    by_option (Some s) e f = by_waiting s (is_waiting s) refl e f

-- a row that waits has an entry
pub waiting_entry : (plans : List Plan) (book : List Standing) (entries : List Entry) (m sub : ℕ) (t : Standing) → IsIndex plans waiting_slot book entries → standing_at m sub book ≡ Some t → is_waiting t ≡ true → find place_order (place_of t) entries ≡ Some (row_for plans t)
waiting_entry plans book entries m sub t index e w =
    index t.due t.pair.no t.pair.sub
    ∙ ap (λ o. row_at t.due (slotted plans waiting_slot o)) (standing_at_own m sub t book e)
    ∙ ap (λ b. row_at t.due (numbered (row_for plans t) (if b then Some t.due else None))) w
    ∙ ap (λ b. if b then Some (row_for plans t) else None) (eq-eqb t.due t.due refl)

not_greater : (p q : Place) (o : Ordering) → place_order p q ≡ o → is_gt o ≡ false → is_gt (place_order p q) ≡ false
not_greater p q o e f = ap is_gt e ∙ f

found_behind : (k q : Place) (rest : List Entry) (r : Row) → Compares Less k rest → find place_order q rest ≡ Some r → is_gt (place_order k q) ≡ false
found_behind k q [] r compares e = absurd (none-some r e)
found_behind k q (y ∷ ys) r compares e =
    elim (eq_by_cmp place_order q y.0) as (λ b. eq_by_cmp place_order q y.0 ≡ b → cond b (Some y.1) (find place_order q ys) ≡ Some r → is_gt (place_order k q) ≡ false) [
      | true ↦ λ t f. subst (λ p. is_gt (place_order k p) ≡ false) (sym (same_place q y.0 t)) (not_greater k y.0 Less compares.0 refl)
      | false ↦ λ t f. found_behind k q ys r compares.1 f
    ] refl e

-- the first entry of a list in order comes before each other
pub first_before : (x : Entry) (rest : List Entry) (q : Place) (r : Row) → is_sorted place_order (x ∷ rest) ≡ true → find place_order q (x ∷ rest) ≡ Some r → is_gt (place_order x.0 q) ≡ false
first_before x rest q r sorted e =
    let parts = and_parts _ _ sorted in
    elim (eq_by_cmp place_order q x.0) as (λ b. eq_by_cmp place_order q x.0 ≡ b → cond b (Some x.1) (find place_order q rest) ≡ Some r → is_gt (place_order x.0 q) ≡ false) [
      | true ↦ λ t f. subst (λ p. is_gt (place_order x.0 p) ≡ false) (sym (same_place q x.0 t)) (ap is_gt (Rattle.std.proofs.lemmas.Cmp.tied_itself Rattle.ledger_core.proofs.Sorted.total x.0))
      | false ↦ λ t f. found_behind x.0 q rest r (below_each x.0 rest parts.0) f
    ] refl e

pub not_behind : (p q : Place) → is_gt (place_order p q) ≡ false → p.at ≤ q.at
not_behind p q e = ⊎_elim (λ lt. absurd (contrary lt)) (λ le. le) (cases_lt q.at p.at)
  where
    contrary : q.at < p.at → ⊥
    contrary lt =
        let not_less = le-ltb p.at q.at (omega arith) in
        let unlike = ne_eqb p.at q.at (λ same. omega arith) in
        let greater : nat_cmp p.at q.at ≡ Greater = ap (λ b. cond b Less (cond (p.at == q.at) Equal Greater)) not_less ∙ ap (λ b. cond b Equal Greater) unlike in
        let is : is_gt (place_order p q) ≡ true = ap (λ o. is_gt (ordering_then o (ordering_then (nat_cmp p.no q.no) (nat_cmp p.sub q.sub)))) greater in
        false≢true (sym e ∙ is)
