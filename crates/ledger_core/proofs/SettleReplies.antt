-- The books after each reply to a `Settle`.
use Rattle.std.proofs.Common.{◌≡◌, ◌+◌, ◌-◌, ◌^◌, ◌≤◌, min, ℕ, List, [], ◌∷◌, ◌++◌, map, length, Option, Some, None, refl, sym, ap, subst, ◌∙◌, arith, add-zero}
use Rattle.std.specs.Prelude.{option_map}
use Rattle.std.specs.FinMap.{put}
use Rattle.retry_core.specs.RetryRun.{Run, run_after}
use Rattle.ledger_core.specs.declared.place.Place.{Place}
use Rattle.ledger_core.specs.declared.plan.Aim.{Aim}
use Rattle.ledger_core.specs.declared.plan.Plan.{Plan}
use Rattle.ledger_core.specs.declared.books.Books.{Books}
use Rattle.ledger_core.specs.declared.command.Finish.{Finish}
use Rattle.ledger_core.specs.declared.command.Finish.TheVariants as ended
use Rattle.ledger_core.specs.declared.command.LedgerCmd.{LedgerCmd}
use Rattle.ledger_core.specs.declared.command.LedgerCmd.TheVariants.{Settle}
use Rattle.ledger_core.specs.declared.reply.Reason.{Reason}
use Rattle.ledger_core.specs.declared.reply.LedgerReply.{LedgerReply}
use Rattle.ledger_core.specs.declared.reply.LedgerReply.TheVariants as says
use Rattle.ledger_core.specs.Place.{place_order}
use Rattle.ledger_core.specs.Plan.{plan_at}
use Rattle.ledger_core.specs.Row.{Row, Entry}
use Rattle.ledger_core.specs.Tree.{without}
use Rattle.ledger_core.specs.Size.{new_rows, new_drops, new_bytes}
use Rattle.ledger_core.proofs.Once.{AreOnce}
use Rattle.ledger_core.specs.Message.{Pair}
use Rattle.ledger_core.specs.Standing.{Standing, owed, done, dropped, dead, words_by}
use Rattle.ledger_core.specs.Course.{Course, standing_at}
use Rattle.ledger_core.specs.Books.{row_for, Shows, moved_to, put_all}
use Rattle.ledger_core.specs.After.{moved, fresh, letters, one_if, entries_for, course_after, IsBook, InHand}
use Rattle.ledger_core.proofs.AcceptSteps.{IsAdded, shows_added}
use Rattle.ledger_core.proofs.Lookups.{standing_at-map}
use Rattle.ledger_core.proofs.Moves.{settled_to, Held, held_parts}
use Rattle.ledger_core.proofs.SettleSteps.{requeued, shows_closed, closed_shows}

-- what is kept of a row, by its pair and its words
abbrev row_by : List Plan → Pair → List ℕ → Row
row_by plans pair words = row_for plans (record { pair = pair; status = owed; claim = None; due = 0; words = words })

words_kept : (plans : List Plan) (cmd : LedgerCmd) (reply : LedgerReply) (s : Standing) (row : Row) → row ≡ row_for plans s → words_by cmd reply ≡ [] → row ≡ row_for plans (settled_to cmd reply s)
words_kept plans cmd reply s row is none = is ∙ sym (ap (row_by plans s.pair) (ap (λ ws. ws ++ s.words) none))

-- ---- the row is gone

pub done_shows : (plans : List Plan) (course : Course) (place : Place) (row : Row) (s : Standing) (mid after : Books) (finish : Finish) (moment word : ℕ) (aims : List Aim) → IsBook course → InHand plans course place row s mid
    → after ≡ record mid { owed = mid.owed - 1; bytes = mid.bytes - (length row.event + length row.path); done = mid.done + 1 }
    → Shows plans (course_after course (Settle place.no place.sub place.at finish moment word aims) says.Done) after
done_shows plans course place row s mid after finish moment word aims is_book hand is =
    closed_shows plans course place row s mid after (Settle place.no place.sub place.at finish moment word aims) says.Done done is_book hand (record { one = λ m sub. refl; none = λ m sub. refl }) refl refl refl refl refl refl
    (record {
      waiting = ap (λ (b : Books). b.waiting) is ∙ ap (λ (b : Books). b.waiting) hand.books_are;
      held = ap (λ (b : Books). b.held) is ∙ ap (λ (b : Books). b.held) hand.books_are;
      made = ap (λ (b : Books). b.made) is ∙ ap (λ (b : Books). b.made) hand.books_are;
      claims = ap (λ (b : Books). b.claims) is ∙ ap (λ (b : Books). b.claims) hand.books_are;
      owed_is = ap (λ (b : Books). b.owed) is ∙ ap (λ (b : Books). b.owed - 1) hand.books_are;
      done_is = ap (λ (b : Books). b.done) is ∙ ap (λ (b : Books). b.done + 1) hand.books_are;
      dropped_is = ap (λ (b : Books). b.dropped) is ∙ ap (λ (b : Books). b.dropped) hand.books_are ∙ sym (add-zero hand.before.dropped);
      dead_is = ap (λ (b : Books). b.dead) is ∙ ap (λ (b : Books). b.dead) hand.books_are ∙ sym (add-zero hand.before.dead);
      bytes = ap (λ (b : Books). b.bytes) is ∙ ap (λ (b : Books). b.bytes - (length row.event + length row.path)) hand.books_are;
    })

pub drop_shows : (plans : List Plan) (course : Course) (place : Place) (row : Row) (s : Standing) (mid after : Books) (finish : Finish) (moment word : ℕ) (aims : List Aim) (reason : Reason) → IsBook course → InHand plans course place row s mid
    → after ≡ record mid { owed = mid.owed - 1; bytes = mid.bytes - (length row.event + length row.path); dropped = mid.dropped + 1 }
    → Shows plans (course_after course (Settle place.no place.sub place.at finish moment word aims) (says.Dropped reason)) after
drop_shows plans course place row s mid after finish moment word aims reason is_book hand is =
    closed_shows plans course place row s mid after (Settle place.no place.sub place.at finish moment word aims) (says.Dropped reason) dropped is_book hand (record { one = λ m sub. refl; none = λ m sub. refl }) refl refl refl refl refl refl
    (record {
      waiting = ap (λ (b : Books). b.waiting) is ∙ ap (λ (b : Books). b.waiting) hand.books_are;
      held = ap (λ (b : Books). b.held) is ∙ ap (λ (b : Books). b.held) hand.books_are;
      made = ap (λ (b : Books). b.made) is ∙ ap (λ (b : Books). b.made) hand.books_are;
      claims = ap (λ (b : Books). b.claims) is ∙ ap (λ (b : Books). b.claims) hand.books_are;
      owed_is = ap (λ (b : Books). b.owed) is ∙ ap (λ (b : Books). b.owed - 1) hand.books_are;
      done_is = ap (λ (b : Books). b.done) is ∙ ap (λ (b : Books). b.done) hand.books_are ∙ sym (add-zero hand.before.done);
      dropped_is = ap (λ (b : Books). b.dropped) is ∙ ap (λ (b : Books). b.dropped + 1) hand.books_are;
      dead_is = ap (λ (b : Books). b.dead) is ∙ ap (λ (b : Books). b.dead) hand.books_are ∙ sym (add-zero hand.before.dead);
      bytes = ap (λ (b : Books). b.bytes) is ∙ ap (λ (b : Books). b.bytes - (length row.event + length row.path)) hand.books_are;
    })

-- ---- the row waits again

pub later_shows : (plans : List Plan) (course : Course) (place : Place) (row : Row) (s : Standing) (mid after : Books) (at moment word : ℕ) (aims : List Aim) → IsBook course → InHand plans course place row s mid
    → after ≡ record mid { waiting = put place_order (moved_to at place) row mid.waiting }
    → Shows plans (course_after course (Settle place.no place.sub place.at (ended.Later at) moment word aims) (says.Again at)) after
later_shows plans course place row s mid after at moment word aims is_book hand is =
    requeued plans course place row row s mid after (Settle place.no place.sub place.at (ended.Later at) moment word aims) (says.Again at) at is_book hand (record { one = λ m sub. refl; none = λ m sub. refl }) refl refl refl refl refl refl
    (words_kept plans (Settle place.no place.sub place.at (ended.Later at) moment word aims) (says.Again at) s row hand.row_is refl) is

pub full_shows : (plans : List Plan) (course : Course) (place : Place) (row : Row) (s : Standing) (mid after : Books) (moment word : ℕ) (aims : List Aim) (rows bytes : ℕ) → IsBook course → InHand plans course place row s mid
    → after ≡ record mid { waiting = put place_order (moved_to (moment + 1000) place) row mid.waiting }
    → Shows plans (course_after course (Settle place.no place.sub place.at ended.Retry moment word aims) (says.Full rows bytes)) after
full_shows plans course place row s mid after moment word aims rows bytes is_book hand is =
    requeued plans course place row row s mid after (Settle place.no place.sub place.at ended.Retry moment word aims) (says.Full rows bytes) (moment + 1000) is_book hand (record { one = λ m sub. refl; none = λ m sub. refl }) refl refl refl refl refl refl
    (words_kept plans (Settle place.no place.sub place.at ended.Retry moment word aims) (says.Full rows bytes) s row hand.row_is refl) is

pub wanting_shows : (plans : List Plan) (course : Course) (place : Place) (row : Row) (s : Standing) (mid after : Books) (moment word : ℕ) (aims : List Aim) → IsBook course → InHand plans course place row s mid
    → after ≡ record mid { waiting = put place_order (moved_to moment place) row mid.waiting }
    → Shows plans (course_after course (Settle place.no place.sub place.at ended.Retry moment word aims) says.NoMemory) after
wanting_shows plans course place row s mid after moment word aims is_book hand is =
    requeued plans course place row row s mid after (Settle place.no place.sub place.at ended.Retry moment word aims) says.NoMemory moment is_book hand (record { one = λ m sub. refl; none = λ m sub. refl }) refl refl refl refl refl refl
    (words_kept plans (Settle place.no place.sub place.at ended.Retry moment word aims) says.NoMemory s row hand.row_is refl) is

-- the row of an attempt that is made again
abbrev pub next_row : Row → Option Run → Row
next_row row run = record row { run = run; attempt = min (row.attempt + 1) (2 ^ 64 - 1) }

pub retry_shows : (plans : List Plan) (course : Course) (place : Place) (row : Row) (run : Option Run) (s : Standing) (mid after : Books) (at moment word : ℕ) (aims : List Aim) → IsBook course → InHand plans course place row s mid
    → run ≡ option_map (λ policy. run_after policy (word ∷ s.words)) (plan_at plans s.pair.sub).retry
    → after ≡ record mid { waiting = put place_order (moved_to at place) (next_row row run) mid.waiting }
    → Shows plans (course_after course (Settle place.no place.sub place.at ended.Retry moment word aims) (says.Again at)) after
retry_shows plans course place row run s mid after at moment word aims is_book hand run_is is =
    requeued plans course place row (next_row row run) s mid after (Settle place.no place.sub place.at ended.Retry moment word aims) (says.Again at) at is_book hand (record { one = λ m sub. refl; none = λ m sub. refl }) refl refl refl refl refl refl
    row_is is
  where
    held : Held place.at place.no place.sub course.book s
    held = held_parts place.at place.no place.sub course.book s hand.there

    attempt_is : min (row.attempt + 1) (2 ^ 64 - 1) ≡ length (word ∷ s.words) + 1
    attempt_is =
        let few = is_book.short place.no place.sub s held.there in
        let e = ap (λ (r : Row). r.attempt) hand.row_is in
        omega (arith, few, e)

    row_is : next_row row run ≡ row_for plans (settled_to (Settle place.no place.sub place.at ended.Retry moment word aims) (says.Again at) s)
    row_is = λ i. record {
      path = (hand.row_is i).path;
      event = (hand.row_is i).event;
      hops = (hand.row_is i).hops;
      attempt = attempt_is i;
      run = run_is i;
      dead = (hand.row_is i).dead;
    }

-- ---- the row's event goes to its dead-letter topic

abbrev letter_course : Course → Place → ℕ → ℕ → ℕ → List Aim → Course
letter_course course place moment word number aims = record {
  made = course.made;
  claims = course.claims;
  book = map (moved (Settle place.no place.sub place.at ended.Retry moment word aims) (says.Dead number)) course.book;
}

abbrev letter_books : Place → Row → Books → Books
letter_books place row before = record before {
  held = without place before.held;
  owed = before.owed - 1;
  bytes = before.bytes - (length row.event + length row.path);
  dead = before.dead + 1;
}

pub dead_shows : (plans : List Plan) (course : Course) (place : Place) (row : Row) (s : Standing) (mid after : Books) (moment word number : ℕ) (aims : List Aim) → IsBook course → InHand plans course place row s mid → AreOnce aims
    → (entries : List Entry) → entries ≡ entries_for plans (fresh (mid.made + 1) row.event (row.hops + 1) moment aims)
    → after ≡ record mid {
      waiting = put_all entries mid.waiting;
      made = mid.made + 1;
      owed = (mid.owed - 1) + new_rows aims;
      bytes = (mid.bytes - (length row.event + length row.path)) + new_bytes (length row.event) aims;
      dropped = mid.dropped + new_drops aims;
      dead = mid.dead + 1;
    }
    → Shows plans (course_after course (Settle place.no place.sub place.at ended.Retry moment word aims) (says.Dead number)) after
dead_shows plans course place row s mid after moment word number aims is_book hand once entries entries_are is =
    subst (λ c. Shows plans c after) (sym course_is)
    (shows_added plans (letter_course course place moment word number aims) (letter_books place row hand.before) after s.pair.event (s.pair.hops + 1) moment aims numbered once closed added)
  where
    held : Held place.at place.no place.sub course.book s
    held = held_parts place.at place.no place.sub course.book s hand.there

    closed : Shows plans (letter_course course place moment word number aims) (letter_books place row hand.before)
    closed =
        shows_closed plans course place row s mid (letter_books place row hand.before) (Settle place.no place.sub place.at ended.Retry moment word aims) (says.Dead number) dead is_book hand (record { one = λ m sub. refl; none = λ m sub. refl }) refl refl refl
        (record {
          waiting = refl;
          held = refl;
          made = refl;
          claims = refl;
          owed_is = refl;
          done_is = sym (add-zero hand.before.done);
          dropped_is = sym (add-zero hand.before.dropped);
          dead_is = refl;
          bytes = refl;
        })

    numbered : (m sub : ℕ) (t : Standing) → standing_at m sub (letter_course course place moment word number aims).book ≡ Some t → m ≤ course.made
    numbered m sub t e = by_option (standing_at m sub course.book) refl (sym (standing_at-map (moved (Settle place.no place.sub place.at ended.Retry moment word aims) (says.Dead number)) (λ x. refl) m sub course.book) ∙ e)
      where
        by_option : (o : Option Standing) → standing_at m sub course.book ≡ o → option_map (moved (Settle place.no place.sub place.at ended.Retry moment word aims) (says.Dead number)) o ≡ Some t → m ≤ course.made
        by_option None f g = absurd (Rattle.std.proofs.lemmas.Option.none-some t g)
        by_option (Some x) f g = is_book.numbered m sub x f

    event : row.event ≡ s.pair.event
    event = ap (λ (r : Row). r.event) hand.row_is

    hops : row.hops ≡ s.pair.hops
    hops = ap (λ (r : Row). r.hops) hand.row_is

    made : mid.made ≡ course.made
    made = ap (λ (b : Books). b.made) hand.books_are ∙ hand.shows.made

    entries_now : entries ≡ entries_for plans (fresh (course.made + 1) s.pair.event (s.pair.hops + 1) moment aims)
    entries_now = entries_are ∙ (λ i. entries_for plans (fresh (made i + 1) (event i) (hops i + 1) moment aims))

    added : IsAdded plans course.made s.pair.event (s.pair.hops + 1) moment aims (letter_books place row hand.before) after
    added = record {
      waiting = ap (λ (b : Books). b.waiting) is ∙ ap (λ es. put_all es mid.waiting) entries_now ∙ ap (λ (b : Books). put_all (entries_for plans (fresh (course.made + 1) s.pair.event (s.pair.hops + 1) moment aims)) b.waiting) hand.books_are;
      held = ap (λ (b : Books). b.held) is ∙ ap (λ (b : Books). b.held) hand.books_are;
      made_is = ap (λ (b : Books). b.made) is ∙ ap (λ (b : Books). b.made + 1) hand.books_are;
      claims = ap (λ (b : Books). b.claims) is ∙ ap (λ (b : Books). b.claims) hand.books_are;
      owed = ap (λ (b : Books). b.owed) is ∙ ap (λ (b : Books). (b.owed - 1) + new_rows aims) hand.books_are;
      done = ap (λ (b : Books). b.done) is ∙ ap (λ (b : Books). b.done) hand.books_are;
      dropped = ap (λ (b : Books). b.dropped) is ∙ ap (λ (b : Books). b.dropped + new_drops aims) hand.books_are;
      dead = ap (λ (b : Books). b.dead) is ∙ ap (λ (b : Books). b.dead + 1) hand.books_are;
      bytes =
          ap (λ (b : Books). b.bytes) is ∙ ap (λ (b : Books). (b.bytes - (length row.event + length row.path)) + new_bytes (length row.event) aims) hand.books_are
          ∙ ap (λ e. (hand.before.bytes - (length row.event + length row.path)) + new_bytes (length e) aims) event;
    }

    course_is : course_after course (Settle place.no place.sub place.at ended.Retry moment word aims) (says.Dead number)
        ≡ record {
          made = course.made + 1;
          claims = course.claims;
          book = map (moved (Settle place.no place.sub place.at ended.Retry moment word aims) (says.Dead number)) course.book ++ fresh (course.made + 1) s.pair.event (s.pair.hops + 1) moment aims;
        }
    course_is = λ i. record {
      made = course.made + one_if (held.there i);
      claims = add-zero course.claims i;
      book = map (moved (Settle place.no place.sub place.at ended.Retry moment word aims) (says.Dead number)) course.book ++ letters (course.made + 1) aims moment (held.there i);
    }
