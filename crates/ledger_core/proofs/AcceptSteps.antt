-- A new message in the books, and the replies to an `Accept`.
use Rattle.std.proofs.Common.{◌≡◌, ◌+◌, ◌≤◌, ℕ, true, false, List, [], ◌∷◌, ◌++◌, length, Option, Some, None, refl, sym, ap, subst, ◌∙◌, arith, add-zero}
use Rattle.std.specs.Prelude.{if◌then◌else◌}
use Rattle.std.proofs.lemmas.Bool.{or_parts, ltb-false}
use Rattle.std.proofs.lemmas.Option.{none-some}
use Rattle.std.proofs.lemmas.List.Sums.{sum_by-append}
use Rattle.std.proofs.lemmas.List.Concat.{flat_map-cons}
use Rattle.ledger_core.specs.declared.plan.Aim.{Aim}
use Rattle.ledger_core.specs.declared.plan.Plan.{Plan}
use Rattle.ledger_core.specs.declared.books.Books.{Books}
use Rattle.ledger_core.specs.declared.command.LedgerCmd.TheVariants.{Accept}
use Rattle.ledger_core.specs.declared.reply.LedgerReply.{LedgerReply}
use Rattle.ledger_core.specs.declared.reply.LedgerReply.TheVariants as says
use Rattle.ledger_core.specs.Size.{exceeds, new_rows, new_drops, new_bytes}
use Rattle.ledger_core.proofs.Once.{AreOnce}
use Rattle.ledger_core.specs.Standing.{Standing, status_in}
use Rattle.ledger_core.specs.Course.{Course, is_owed, is_done, is_dropped, is_dead, standing_at}
use Rattle.ledger_core.specs.Reply.{IsSized, IsAcceptedAs}
use Rattle.ledger_core.specs.Books.{IsIndex, waiting_slot, held_slot, Shows, put_all}
use Rattle.ledger_core.specs.After.{moved, fresh, fresh_one, entry_at, entries_for, course_after, AreDistinct, IsBook, IsStepOf}
use Rattle.ledger_core.proofs.Adds.{index_adds, slot_entries, fresh_rows, fresh_drops, fresh_nothing, fresh_bytes}
use Rattle.ledger_core.proofs.Counts.{unit, weight}
use Rattle.ledger_core.proofs.Lookups.{fresh_elsewhere, fresh_distinct}
use Rattle.ledger_core.proofs.Moves.{map_same}
use Rattle.ledger_core.proofs.Stays.{stays}

-- the books with a new message
pub record IsAdded (plans : List Plan) (made : ℕ) (event : List ℕ) (hops now : ℕ) (aims : List Aim) (before after : Books) : Type 0 where
  pub waiting : after.waiting ≡ put_all (entries_for plans (fresh (made + 1) event hops now aims)) before.waiting
  pub held : after.held ≡ before.held
  pub made_is : after.made ≡ before.made + 1
  pub claims : after.claims ≡ before.claims
  pub owed : after.owed ≡ before.owed + new_rows aims
  pub done : after.done ≡ before.done
  pub dropped : after.dropped ≡ before.dropped + new_drops aims
  pub dead : after.dead ≡ before.dead
  pub bytes : after.bytes ≡ before.bytes + new_bytes (length event) aims

no_entry : (plans : List Plan) (n : ℕ) (event : List ℕ) (hops now : ℕ) (aim : Aim) (path : Option (List ℕ)) (s : Standing) → entry_at plans s (if is_owed (status_in path None) then None else None) ≡ []
no_entry plans n event hops now aim None s = refl
no_entry plans n event hops now aim (Some path) s = refl

-- nobody holds a new pair
unheld : (plans : List Plan) (n : ℕ) (event : List ℕ) (hops now : ℕ) (aims : List Aim) → slot_entries plans held_slot (fresh n event hops now aims) ≡ []
unheld plans n event hops now [] = refl
unheld plans n event hops now (aim ∷ aims) =
    flat_map-cons (λ s. entry_at plans s (held_slot s)) (fresh_one n event hops now aim) (fresh n event hops now aims)
    ∙ ap (λ es. es ++ slot_entries plans held_slot (fresh n event hops now aims)) (no_entry plans n event hops now aim aim.path (fresh_one n event hops now aim))
    ∙ unheld plans n event hops now aims

pub shows_added : (plans : List Plan) (course : Course) (before after : Books) (event : List ℕ) (hops now : ℕ) (aims : List Aim) → ((m sub : ℕ) (s : Standing) → standing_at m sub course.book ≡ Some s → m ≤ course.made) → AreOnce aims → Shows plans course before
    → IsAdded plans course.made event hops now aims before after
    → Shows plans (record { made = course.made + 1; claims = course.claims; book = course.book ++ fresh (course.made + 1) event hops now aims }) after
shows_added plans course before after event hops now aims numbered once shows added = record {
  made = added.made_is ∙ ap (λ n. n + 1) shows.made;
  claims = added.claims ∙ shows.claims;
  waiting = subst (IsIndex plans waiting_slot (course.book ++ (fresh (course.made + 1) event hops now aims))) (sym added.waiting) (index_adds plans waiting_slot (fresh (course.made + 1) event hops now aims) course.book before.waiting distinct apart shows.waiting);
  held = subst (IsIndex plans held_slot (course.book ++ (fresh (course.made + 1) event hops now aims))) (sym (added.held ∙ ap (λ es. put_all es before.held) (sym (unheld plans (course.made + 1) event hops now aims)))) (index_adds plans held_slot (fresh (course.made + 1) event hops now aims) course.book before.held distinct apart shows.held);
  owed = let a = sum_by-append (unit is_owed) course.book (fresh (course.made + 1) event hops now aims) in let b = fresh_rows (course.made + 1) event hops now aims in let c = added.owed in let d = shows.owed in omega (arith, a, b, c, d);
  done = let a = sum_by-append (unit is_done) course.book (fresh (course.made + 1) event hops now aims) in let b = fresh_nothing is_done refl refl (course.made + 1) event hops now aims in let c = added.done in let d = shows.done in omega (arith, a, b, c, d);
  dropped = let a = sum_by-append (unit is_dropped) course.book (fresh (course.made + 1) event hops now aims) in let b = fresh_drops (course.made + 1) event hops now aims in let c = added.dropped in let d = shows.dropped in omega (arith, a, b, c, d);
  dead = let a = sum_by-append (unit is_dead) course.book (fresh (course.made + 1) event hops now aims) in let b = fresh_nothing is_dead refl refl (course.made + 1) event hops now aims in let c = added.dead in let d = shows.dead in omega (arith, a, b, c, d);
  bytes = let a = sum_by-append weight course.book (fresh (course.made + 1) event hops now aims) in let b = fresh_bytes (course.made + 1) event hops now aims in let c = added.bytes in let d = shows.bytes in omega (arith, a, b, c, d);
}
  where
    distinct : AreDistinct (fresh (course.made + 1) event hops now aims)
    distinct = fresh_distinct (course.made + 1) event hops now aims once

    apart : (m sub : ℕ) (s : Standing) → standing_at m sub (fresh (course.made + 1) event hops now aims) ≡ Some s → standing_at m sub course.book ≡ None
    apart m sub s e = by_option (standing_at m sub course.book) refl
      where
        by_option : (o : Option Standing) → standing_at m sub course.book ≡ o → o ≡ None
        by_option None f = refl
        by_option (Some t) f =
            let few = numbered m sub t f in
            absurd (none-some s (sym (fresh_elsewhere (course.made + 1) event hops now aims m sub (λ same. omega arith)) ∙ e))

-- ---- sizes

pub sized_full : (rows bytes r b : ℕ) (done : LedgerReply → Type 0) → rows ≡ r → bytes ≡ b → exceeds rows bytes ≡ true → IsSized r b done (says.Full rows bytes)
sized_full rows bytes r b done rows_are bytes_are over = (sym (ap (λ n. exceeds n bytes) rows_are ∙ ap (exceeds r) bytes_are) ∙ over, rows_are, bytes_are)

pub sized_within : (rows bytes r b : ℕ) → rows ≡ r → bytes ≡ b → exceeds rows bytes ≡ false → exceeds r b ≡ false
sized_within rows bytes r b rows_are bytes_are within = sym (ap (λ n. exceeds n bytes) rows_are ∙ ap (exceeds r) bytes_are) ∙ within

pub within_limits : (rows bytes : ℕ) → exceeds rows bytes ≡ false → (rows ≤ 65536) × (bytes ≤ 268435456)
within_limits rows bytes e = let parts = or_parts _ _ e in (ltb-false 65536 rows parts.0, ltb-false 268435456 bytes parts.1)

-- ---- the replies

pub accept_full : (plans : List Plan) (course : Course) (books : Books) (event : List ℕ) (aims : List Aim) (now rows bytes : ℕ) → Shows plans course books
    → rows ≡ books.owed + new_rows aims → bytes ≡ books.bytes + new_bytes (length event) aims → exceeds rows bytes ≡ true
    → IsStepOf plans course (Accept event aims now) (says.Full rows bytes) books
accept_full plans course books event aims now rows bytes shows rows_are bytes_are over = record {
  reply_is = sized_full rows bytes _ _ (IsAcceptedAs (course.made + 1)) (rows_are ∙ ap (λ n. n + new_rows aims) shows.owed) (bytes_are ∙ ap (λ n. n + new_bytes (length event) aims) shows.bytes) over;
  shows = subst (λ c. Shows plans c books) (sym (stays course (Accept event aims now) (says.Full rows bytes) (λ s. refl) refl refl refl)) shows;
}

pub accept_wanting : (plans : List Plan) (course : Course) (books : Books) (event : List ℕ) (aims : List Aim) (now rows bytes : ℕ) → Shows plans course books
    → rows ≡ books.owed + new_rows aims → bytes ≡ books.bytes + new_bytes (length event) aims → exceeds rows bytes ≡ false
    → IsStepOf plans course (Accept event aims now) says.NoMemory books
accept_wanting plans course books event aims now rows bytes shows rows_are bytes_are within = record {
  reply_is = sized_within rows bytes _ _ (rows_are ∙ ap (λ n. n + new_rows aims) shows.owed) (bytes_are ∙ ap (λ n. n + new_bytes (length event) aims) shows.bytes) within;
  shows = subst (λ c. Shows plans c books) (sym (stays course (Accept event aims now) says.NoMemory (λ s. refl) refl refl refl)) shows;
}

pub accept_added : (plans : List Plan) (course : Course) (before after : Books) (event : List ℕ) (aims : List Aim) (now rows bytes : ℕ) → IsBook course → Shows plans course before → AreOnce aims
    → rows ≡ before.owed + new_rows aims → bytes ≡ before.bytes + new_bytes (length event) aims → exceeds rows bytes ≡ false
    → IsAdded plans before.made event 0 now aims before after
    → IsStepOf plans course (Accept event aims now) (says.Accepted after.made) after
accept_added plans course before after event aims now rows bytes is_book shows once rows_are bytes_are within added = record {
  reply_is = (sized_within rows bytes _ _ (rows_are ∙ ap (λ n. n + new_rows aims) shows.owed) (bytes_are ∙ ap (λ n. n + new_bytes (length event) aims) shows.bytes) within, added.made_is ∙ ap (λ n. n + 1) shows.made);
  shows = subst (λ c. Shows plans c after) (sym course_is)
      (shows_added plans course before after event 0 now aims is_book.numbered once shows (subst (λ n. IsAdded plans n event 0 now aims before after) shows.made added));
}
  where
    course_is : course_after course (Accept event aims now) (says.Accepted after.made) ≡ record { made = course.made + 1; claims = course.claims; book = course.book ++ fresh (course.made + 1) event 0 now aims }
    course_is = λ i. record {
      made = course.made + 1;
      claims = add-zero course.claims i;
      book = map_same (moved (Accept event aims now) (says.Accepted after.made)) (λ s. refl) course.book i ++ fresh (course.made + 1) event 0 now aims;
    }
