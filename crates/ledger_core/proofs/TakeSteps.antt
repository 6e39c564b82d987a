-- The replies to a `Take`.
use Rattle.std.proofs.Common.{◌≡◌, ◌+◌, ◌<◌, ◌≤◌, ℕ, Bool, true, false, List, [], ◌∷◌, map, Option, Some, None, refl, sym, ap, subst, ◌∙◌, arith}
use Rattle.std.specs.Prelude.{is_none, unwrap_or, slice_get, if◌then◌else◌}
use Rattle.std.specs.Ordering.{is_gt}
use Rattle.std.specs.FinMap.{find, is_sorted, put}
use Rattle.std.proofs.lemmas.Bool.{and_parts, and_from, false≢true, eq-eqb, leb-true, le-leb}
use Rattle.std.proofs.lemmas.Option.{same_Some, none-some}
use Rattle.ledger_core.specs.declared.plan.Plan.{Plan}
use Rattle.ledger_core.specs.declared.books.Books.{Books}
use Rattle.ledger_core.specs.declared.command.LedgerCmd.TheVariants.{Take}
use Rattle.ledger_core.specs.declared.reply.LedgerReply.TheVariants as says
use Rattle.ledger_core.specs.Place.{place_order}
use Rattle.ledger_core.specs.Row.{Row, Entry}
use Rattle.ledger_core.specs.Tree.{without}
use Rattle.ledger_core.specs.Standing.{Standing, Status}
use Rattle.ledger_core.specs.Course.{Course, is_owed, is_done, is_dropped, is_dead, standing_at, is_waiting, is_ready, place_of}
use Rattle.ledger_core.specs.Reply.{IsFirst}
use Rattle.ledger_core.specs.Books.{row_for, slotted, numbered, IsIndex, waiting_slot, held_slot, Shows, moved_to}
use Rattle.ledger_core.specs.After.{moved, course_after, IsBook, IsStepOf}
use Rattle.ledger_core.proofs.Indexes.{look_put, look_out}
use Rattle.ledger_core.proofs.Lookups.{MovesOnly, standing_at_own, standing_at_its}
use Rattle.ledger_core.proofs.Moves.{moved_other, moved_taken, taken_to, look_of, others_seen, moved_seen, held_waits_not, held_stands}
use Rattle.ledger_core.proofs.Placed.{without_here}
use Rattle.ledger_core.proofs.Counts.{unit, weight, only_moves, shows_moved}
use Rattle.ledger_core.proofs.Stays.{stays, FirstRow, first_row, waiting_entry, first_before, not_behind}

ready_parts : (now : ℕ) (t : Standing) → is_ready now t ≡ true → (is_waiting t ≡ true) × (t.due ≤ now)
ready_parts now t e = let parts = and_parts _ _ e in (parts.0, leb-true t.due now parts.1)

-- no entry, no row
pub take_none : (plans : List Plan) (course : Course) (books : Books) (now : ℕ) → Shows plans course books → books.waiting ≡ [] → IsStepOf plans course (Take now) (says.Idle None) books
take_none plans course books now shows is = record {
  reply_is = record { idle = λ m sub t e r. none m sub t e (ready_parts now t r).0; next_is = none };
  shows = subst (λ c. Shows plans c books) (sym (stays course (Take now) (says.Idle None) (λ s. refl) refl refl refl)) shows;
}
  where
    none : (m sub : ℕ) (t : Standing) → standing_at m sub course.book ≡ Some t → is_waiting t ≡ true → ⊥
    none m sub t e w = none-some _ (sym (ap (find place_order (place_of t)) is) ∙ waiting_entry plans course.book books.waiting m sub t shows.waiting e w)

-- every row that waits is due at the first row's moment or later
behind_first : (plans : List Plan) (book : List Standing) (entries : List Entry) (x : Entry) (rest : List Entry) → IsIndex plans waiting_slot book entries → entries ≡ x ∷ rest → is_sorted place_order entries ≡ true
    → (m sub : ℕ) (t : Standing) → standing_at m sub book ≡ Some t → is_waiting t ≡ true → is_gt (place_order x.0 (place_of t)) ≡ false
behind_first plans book entries x rest index is sorted m sub t e w =
    first_before x rest (place_of t) (row_for plans t) (subst (λ es. is_sorted place_order es ≡ true) is sorted)
    (sym (ap (find place_order (place_of t)) is) ∙ waiting_entry plans book entries m sub t index e w)

-- the first row is not due yet
pub take_later : (plans : List Plan) (course : Course) (books : Books) (now : ℕ) (x : Entry) (rest : List Entry) → Shows plans course books → books.waiting ≡ x ∷ rest → is_sorted place_order books.waiting ≡ true → now < x.0.at
    → IsStepOf plans course (Take now) (says.Idle (Some x.0.at)) books
take_later plans course books now x rest shows is sorted later =
    let first = first_row plans course.book books.waiting x rest shows.waiting is in
    record {
      reply_is = record {
        idle = λ m sub t e r. let parts = ready_parts now t r in let least = lies m sub t e parts.0 in let due = parts.1 in omega arith;
        next_is = ((first.s, standing_at_own x.0.no x.0.sub first.s course.book first.there, first.waits, first.due_is), lies);
      };
      shows = subst (λ c. Shows plans c books) (sym (stays course (Take now) (says.Idle (Some x.0.at)) (λ s. refl) refl refl refl)) shows;
    }
  where
    lies : (m sub : ℕ) (t : Standing) → standing_at m sub course.book ≡ Some t → is_waiting t ≡ true → x.0.at ≤ t.due
    lies m sub t e w = not_behind x.0 (place_of t) (behind_first plans course.book books.waiting x rest shows.waiting is sorted m sub t e w)

place_is : (plans : List Plan) (book : List Standing) (x : Entry) (first : FirstRow plans book x) → place_of first.s ≡ x.0
place_is plans book x first =
    let its = standing_at_its x.0.no x.0.sub first.s book first.there in
    λ i. record { at = first.due_is i; no = its.0 i; sub = its.1 i }

is_first : (plans : List Plan) (course : Course) (books : Books) (now : ℕ) (x : Entry) (rest : List Entry) → Shows plans course books → books.waiting ≡ x ∷ rest → is_sorted place_order books.waiting ≡ true → x.0.at ≤ now
    → (first : FirstRow plans course.book x) → IsFirst course.book now first.s
is_first plans course books now x rest shows is sorted due first = record {
  there = standing_at_own x.0.no x.0.sub first.s course.book first.there;
  ready = and_from _ _ first.waits (le-leb first.s.due now (let e = first.due_is in omega arith));
  first = λ m sub t e r.
      subst (λ p. is_gt (place_order p (place_of t)) ≡ false) (sym (place_is plans course.book x first))
      (behind_first plans course.book books.waiting x rest shows.waiting is sorted m sub t e (ready_parts now t r).0);
}

pub take_wanting : (plans : List Plan) (course : Course) (books : Books) (now : ℕ) (x : Entry) (rest : List Entry) → Shows plans course books → books.waiting ≡ x ∷ rest → is_sorted place_order books.waiting ≡ true → x.0.at ≤ now
    → IsStepOf plans course (Take now) says.NoMemory books
take_wanting plans course books now x rest shows is sorted due =
    let first = first_row plans course.book books.waiting x rest shows.waiting is in
    record {
      reply_is = (first.s, is_first plans course books now x rest shows is sorted due first);
      shows = subst (λ c. Shows plans c books) (sym (stays course (Take now) says.NoMemory (λ s. refl) refl refl refl)) shows;
    }

-- ---- the first row is taken

waiting_parts : (s : Standing) → is_waiting s ≡ true → (is_owed s.status ≡ true) × (s.claim ≡ None)
waiting_parts s e = let parts = and_parts _ _ e in (parts.0, no_claim s.claim parts.1)
  where
    no_claim : (c : Option ℕ) → is_none c ≡ true → c ≡ None
    no_claim None f = refl
    no_claim (Some n) f = absurd (false≢true f)

pub take_first : (plans : List Plan) (course : Course) (before after : Books) (now : ℕ) (x : Entry) (rest : List Entry) (claim : ℕ) (event path : List ℕ) (attempt : ℕ)
    → IsBook course → Shows plans course before → before.waiting ≡ x ∷ rest → is_sorted place_order before.waiting ≡ true → x.0.at ≤ now
    → event ≡ x.1.event → path ≡ x.1.path → attempt ≡ x.1.attempt → claim ≡ before.claims + 1
    → after ≡ record before { waiting = rest; held = put place_order (moved_to (before.claims + 1) x.0) x.1 before.held; claims = before.claims + 1 }
    → IsStepOf plans course (Take now) (says.Taken x.0.no x.0.sub claim event path attempt) after
take_first plans course before after now x rest claim event path attempt is_book shows is sorted due event_is path_is attempt_is claim_is after_is =
    let first = first_row plans course.book before.waiting x rest shows.waiting is in
    let its = standing_at_its x.0.no x.0.sub first.s course.book first.there in
    let parts = waiting_parts first.s first.waits in
    let found = is_book.pathed x.0.no x.0.sub first.s first.there parts.0 in
    record {
      reply_is = record {
        row = first.s;
        is_first = is_first plans course before now x rest shows is sorted due first;
        no_is = sym its.0;
        sub_is = sym its.1;
        claim_is = claim_is ∙ ap (λ n. n + 1) shows.claims;
        event_is = event_is ∙ sym (ap (λ (r : Row). r.event) first.row_is);
        path_is = found.1 ∙ ap (λ p. Some p) (sym (path_is ∙ sym (ap (λ (r : Row). r.path) first.row_is) ∙ ap (λ o. unwrap_or o []) found.1));
        attempt_is = attempt_is ∙ sym (ap (λ (r : Row). r.attempt) first.row_is);
      };
      shows = subst (λ b. Shows plans (course_after course (Take now) (says.Taken x.0.no x.0.sub claim event path attempt)) b) (sym after_is) (shown first its parts);
    }
  where
    only : MovesOnly (moved (Take now) (says.Taken x.0.no x.0.sub claim event path attempt)) x.0.no x.0.sub
    only = record { pairs = λ s. refl; others = λ s e. moved_other (Take now) (says.Taken x.0.no x.0.sub claim event path attempt) s refl e }

    shown : (first : FirstRow plans course.book x) → (first.s.pair.no ≡ x.0.no) × (first.s.pair.sub ≡ x.0.sub) → (is_owed first.s.status ≡ true) × (first.s.claim ≡ None)
        → Shows plans (course_after course (Take now) (says.Taken x.0.no x.0.sub claim event path attempt)) (record before { waiting = rest; held = put place_order (moved_to (before.claims + 1) x.0) x.1 before.held; claims = before.claims + 1 })
    shown first its parts =
        let f : Standing → Standing = moved (Take now) (says.Taken x.0.no x.0.sub claim event path attempt) in
        let hit : f first.s ≡ taken_to (says.Taken x.0.no x.0.sub claim event path attempt) first.s =
        moved_taken (Take now) (says.Taken x.0.no x.0.sub claim event path attempt) first.s refl (and_from _ _ (eq-eqb first.s.pair.no x.0.no its.0) (eq-eqb first.s.pair.sub x.0.sub its.1)) in
        let status : (f first.s).status ≡ first.s.status = ap (λ (s : Standing). s.status) hit in
        let claim_now : (f first.s).claim ≡ Some (before.claims + 1) = ap (λ (s : Standing). s.claim) hit ∙ ap (λ n. Some n) claim_is in
        let row : row_for plans (f first.s) ≡ x.1 = ap (row_for plans) hit ∙ first.row_is in
        let count : (is : Status → Bool) → unit is (f first.s) ≡ unit is first.s = λ is. ap (unit is) hit in
        let first_slot : waiting_slot first.s ≡ Some x.0.at = ap (λ b. if b then Some first.s.due else None) first.waits ∙ ap (λ n. Some n) first.due_is in
        let no_slot : waiting_slot (f first.s) ≡ None = held_waits_not (f first.s) (before.claims + 1) claim_now in
        let held_before : held_slot first.s ≡ None = ap (λ b. if b then first.s.claim else None) parts.0 ∙ parts.1 in
        let held_after : held_slot (f first.s) ≡ Some (before.claims + 1) = held_stands (f first.s) (before.claims + 1) (ap is_owed status ∙ parts.0) claim_now in
        let rest_is : rest ≡ without x.0 before.waiting = sym (without_here before.waiting [] x rest x.0 is sorted (Rattle.std.proofs.lemmas.Cmp.tied_itself Rattle.ledger_core.proofs.Sorted.total x.0)) in
        subst (λ c. Shows plans c (record before { waiting = rest; held = put place_order (moved_to (before.claims + 1) x.0) x.1 before.held; claims = before.claims + 1 })) (sym (only_moves course (Take now) (says.Taken x.0.no x.0.sub claim event path attempt) refl refl))
        (shows_moved plans course before f x.0.no x.0.sub only is_book.distinct first.s first.there shows (course.claims + 1) (record before { waiting = rest; held = put place_order (moved_to (before.claims + 1) x.0) x.1 before.held; claims = before.claims + 1 })
        refl (ap (λ n. n + 1) shows.claims)
        (subst (IsIndex plans waiting_slot (map f course.book)) (sym rest_is)
        (look_out (look_of plans waiting_slot course.book) (look_of plans waiting_slot (map f course.book)) before.waiting x.0.at x.0.no x.0.sub (row_for plans first.s) shows.waiting
        (ap (slotted plans waiting_slot) first.there ∙ ap (numbered (row_for plans first.s)) first_slot)
        (moved_seen plans waiting_slot f x.0.no x.0.sub course.book first.s only first.there ∙ ap (numbered (row_for plans (f first.s))) no_slot)
        (others_seen plans waiting_slot f x.0.no x.0.sub course.book only)))
        (look_put (look_of plans held_slot course.book) (look_of plans held_slot (map f course.book)) before.held (before.claims + 1) x.0.no x.0.sub x.1 shows.held
        (ap (slotted plans held_slot) first.there ∙ ap (numbered (row_for plans first.s)) held_before)
        (moved_seen plans held_slot f x.0.no x.0.sub course.book first.s only first.there ∙ ap (numbered (row_for plans (f first.s))) held_after ∙ ap (λ r. Some (before.claims + 1, r)) row)
        (others_seen plans held_slot f x.0.no x.0.sub course.book only))
        (ap (λ n. before.owed + n) (sym (count is_owed))) (ap (λ n. before.done + n) (sym (count is_done))) (ap (λ n. before.dropped + n) (sym (count is_dropped))) (ap (λ n. before.dead + n) (sym (count is_dead)))
        (ap (λ s. before.bytes + weight s) (sym hit)))

-- ---- the front of a list

pub no_front : (entries : List Entry) → slice_get entries 0 ≡ None → entries ≡ []
no_front [] e = refl
no_front (x ∷ rest) e = absurd (none-some x (sym e))

pub at_front : (entries : List Entry) (x : Entry) → slice_get entries 0 ≡ Some x → (rest : List Entry) × (entries ≡ x ∷ rest)
at_front [] x e = absurd (none-some x e)
at_front (y ∷ rest) x e = (rest, ap (λ z. z ∷ rest) (same_Some y x e))

pub rest_sorted : (entries : List Entry) (x : Entry) (rest : List Entry) → entries ≡ x ∷ rest → is_sorted place_order entries ≡ true → is_sorted place_order rest ≡ true
rest_sorted entries x rest is sorted = (and_parts _ _ (subst (λ es. is_sorted place_order es ≡ true) is sorted)).1
