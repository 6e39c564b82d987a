-- A row that is taken out of the books to be settled, and one that is not there.
use Rattle.std.proofs.Common.{◌≡◌, ◌∷◌, ℕ, true, false, cond, List, Option, Some, None, refl, sym, ap, subst, ◌∙◌}
use Rattle.std.specs.Prelude.{option_map}
use Rattle.std.specs.Ordering.{eq_by_cmp}
use Rattle.std.specs.FinMap.{find}
use Rattle.std.proofs.lemmas.Option.{none-some, same_Some}
use Rattle.retry_core.specs.declared.policy.RetryPolicy.{RetryPolicy}
use Rattle.retry_core.specs.RetryRun.{Run, run_after, decided_by, run_by}
use Rattle.retry_core.proofs.Runs.{run_next}
use Rattle.ledger_core.specs.declared.place.Place.{Place}
use Rattle.ledger_core.specs.declared.plan.Aim.{Aim}
use Rattle.ledger_core.specs.declared.plan.Plan.{Plan}
use Rattle.ledger_core.specs.declared.books.Books.{Books}
use Rattle.ledger_core.specs.declared.tree.StoredRow.{StoredRow}
use Rattle.ledger_core.specs.declared.settling.Outcome.TheVariants.{Wait}
use Rattle.ledger_core.specs.declared.command.Finish.{Finish}
use Rattle.ledger_core.specs.declared.command.LedgerCmd.TheVariants.{Settle, Counts}
use Rattle.ledger_core.specs.declared.reply.LedgerReply.{LedgerReply}
use Rattle.ledger_core.specs.declared.reply.LedgerReply.TheVariants as says
use Rattle.ledger_core.specs.Place.{place_order}
use Rattle.ledger_core.specs.Plan.{plan_at}
use Rattle.ledger_core.specs.Row.{Row}
use Rattle.ledger_core.specs.Rows.{IsOutcome}
use Rattle.ledger_core.specs.Tree.{without, row_of}
use Rattle.ledger_core.specs.Standing.{Standing}
use Rattle.ledger_core.specs.Course.{Course, standing_at, held_at}
use Rattle.ledger_core.specs.Reply.{IsSettled}
use Rattle.ledger_core.specs.Books.{row_for, Shows}
use Rattle.ledger_core.specs.After.{course_after, IsStepOf, InHand}
use Rattle.ledger_core.proofs.Indexes.{without_at, same_place}
use Rattle.ledger_core.proofs.Moves.{held_row}
use Rattle.ledger_core.proofs.SettleReplies.{next_row}
use Rattle.ledger_core.proofs.Stays.{stays}

-- what stands at a place among the held rows
found_is : (plans : List Plan) (course : Course) (before : Books) (place : Place) → Shows plans course before → find place_order place before.held ≡ option_map (row_for plans) (held_at place.at place.no place.sub course.book)
found_is plans course before place shows = shows.held place.at place.no place.sub ∙ held_row plans place.at (standing_at place.no place.sub course.book)

pub in_hand : (plans : List Plan) (course : Course) (before mid : Books) (place : Place) (row : Row) → Shows plans course before → Some row ≡ find place_order place before.held → mid ≡ record before { held = without place before.held } → (s : Standing) × InHand plans course place row s mid
in_hand plans course before mid place row shows found mid_is = by_option (held_at place.at place.no place.sub course.book) refl (found ∙ found_is plans course before place shows)
  where
    by_option : (o : Option Standing) → held_at place.at place.no place.sub course.book ≡ o → Some row ≡ option_map (row_for plans) o → (s : Standing) × InHand plans course place row s mid
    by_option None e f = absurd (none-some row (sym f))
    by_option (Some s) e f = (s, record { before = before; shows = shows; there = e; row_is = same_Some row (row_for plans s) f; books_are = mid_is })

-- the step of a row that is held
pub settled_step : (plans : List Plan) (course : Course) (place : Place) (finish : Finish) (moment word : ℕ) (aims : List Aim) (reply : LedgerReply) (after : Books) (s : Standing) → held_at place.at place.no place.sub course.book ≡ Some s
    → IsSettled plans course (Some s) finish moment word aims reply → Shows plans (course_after course (Settle place.no place.sub place.at finish moment word aims) reply) after
    → IsStepOf plans course (Settle place.no place.sub place.at finish moment word aims) reply after
settled_step plans course place finish moment word aims reply after s there settled shows = record {
  reply_is = subst (λ o. IsSettled plans course o finish moment word aims reply) (sym there) settled;
  shows = shows;
}

-- nothing is held there
pub not_taken : (plans : List Plan) (course : Course) (before mid : Books) (place : Place) (finish : Finish) (moment word : ℕ) (aims : List Aim) → Shows plans course before → None ≡ find place_order place before.held → mid ≡ record before { held = without place before.held }
    → IsStepOf plans course (Settle place.no place.sub place.at finish moment word aims) says.NotTaken mid
not_taken plans course before mid place finish moment word aims shows none mid_is = record {
  reply_is = subst (λ o. IsSettled plans course o finish moment word aims says.NotTaken) (sym (by_option (held_at place.at place.no place.sub course.book) (none ∙ found_is plans course before place shows))) refl;
  shows = subst (λ c. Shows plans c mid) (sym (stays course (Settle place.no place.sub place.at finish moment word aims) says.NotTaken (λ s. refl) refl refl refl))
      (subst (Shows plans course) (sym mid_is) (record {
        made = shows.made;
        claims = shows.claims;
        waiting = shows.waiting;
        held = λ at m sub. same (record { at = at; no = m; sub = sub }) ∙ shows.held at m sub;
        owed = shows.owed;
        done = shows.done;
        dropped = shows.dropped;
        dead = shows.dead;
        bytes = shows.bytes;
      }));
}
  where
    by_option : (o : Option Standing) → None ≡ option_map (row_for plans) o → o ≡ None
    by_option None e = refl
    by_option (Some s) e = absurd (none-some (row_for plans s) e)

    same : (q : Place) → find place_order q (without place before.held) ≡ find place_order q before.held
    same q =
        without_at q place before.held
        ∙ elim (eq_by_cmp place_order q place) as (λ b. eq_by_cmp place_order q place ≡ b → cond b None (find place_order q before.held) ≡ find place_order q before.held) [
          | true ↦ λ t. none ∙ ap (λ p. find place_order p before.held) (sym (same_place q place t))
          | false ↦ λ t. refl
        ] refl

-- what is counted
pub counts_step : (plans : List Plan) (course : Course) (books : Books) → Shows plans course books → IsStepOf plans course Counts (says.Counts books.owed books.done books.dropped books.dead) books
counts_step plans course books shows = record {
  reply_is = λ i. says.Counts (shows.owed i) (shows.done i) (shows.dropped i) (shows.dead i);
  shows = subst (λ c. Shows plans c books) (sym (stays course Counts (says.Counts books.owed books.done books.dropped books.dead) (λ s. refl) refl refl refl)) shows;
}

-- ---- a row whose attempt is made again

pub record Again (plans : List Plan) (s : Standing) (word : ℕ) (old new : Row) : Type 0 where
  pub row_is : new ≡ next_row old new.run
  pub run_is : new.run ≡ option_map (λ policy. run_after policy (word ∷ s.words)) (plan_at plans s.pair.sub).retry

pub waits_again : (plans : List Plan) (s : Standing) (old new : StoredRow) (word ms : ℕ) → IsOutcome old new word (Wait ms) → row_of old ≡ row_for plans s → Again plans s word (row_of old) (row_of new)
waits_again plans s old new word ms outcome old_is = by_retry (plan_at plans s.pair.sub).retry refl (sym outcome.1 ∙ ap (λ (r : Row). r.run) old_is)
  where
    by_retry : (retry : Option RetryPolicy) → (plan_at plans s.pair.sub).retry ≡ retry → Some outcome.0 ≡ option_map (λ policy. run_after policy s.words) retry → Again plans s word (row_of old) (row_of new)
    by_retry None e f = absurd (none-some outcome.0 (sym f))
    by_retry (Some policy) e f =
        let run : outcome.0 ≡ run_after policy s.words = same_Some _ _ f in
        let next : run_by outcome.0 word ≡ run_after policy (word ∷ s.words) = ap (λ (r : Run). run_by r word) run ∙ run_next policy s.words word ms (ap (λ (r : Run). decided_by r word) (sym run) ∙ outcome.2) in
        let new_run : new.run ≡ Some (run_after policy (word ∷ s.words)) = ap (λ (r : StoredRow). r.run) outcome.4 ∙ ap (λ (r : Run). Some r) next in
        record {
          row_is = ap row_of outcome.4 ∙ (λ i. next_row (row_of old) (ap (λ (r : StoredRow). r.run) (sym outcome.4) i));
          run_is = new_run ∙ sym (ap (option_map (λ policy. run_after policy (word ∷ s.words))) e);
        }

pub unplanned_again : (plans : List Plan) (s : Standing) (old : StoredRow) (word : ℕ) → old.run ≡ None → row_of old ≡ row_for plans s → None ≡ option_map (λ policy. run_after policy (word ∷ s.words)) (plan_at plans s.pair.sub).retry
unplanned_again plans s old word none old_is = by_retry (plan_at plans s.pair.sub).retry (sym none ∙ ap (λ (r : Row). r.run) old_is)
  where
    by_retry : (retry : Option RetryPolicy) → None ≡ option_map (λ policy. run_after policy s.words) retry → None ≡ option_map (λ policy. run_after policy (word ∷ s.words)) retry
    by_retry None e = refl
    by_retry (Some policy) e = absurd (none-some _ e)
