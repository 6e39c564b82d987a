use Rattle.std.proofs.Common.{◌≡◌, ◌+◌, ◌-◌, ◌^◌, min, ap, sym, ◌∙◌, subst, length}
use Rattle.std.specs.FinMap.{put}
use Rattle.std.specs.Arc.{arc_value}
use Rattle.ledger_core.specs.declared.tree.Node.{Node}
use Rattle.ledger_core.specs.declared.command.Finish.TheVariants as ended
use Rattle.ledger_core.specs.declared.command.LedgerCmd.TheVariants.{Settle}
use Rattle.ledger_core.specs.declared.reply.Reason.TheVariants.{UsedUp}
use Rattle.ledger_core.specs.Place.{place_order}
use Rattle.ledger_core.specs.Row.{Row}
use Rattle.ledger_core.specs.Tree.{row_of}
use Rattle.ledger_core.specs.Books.{Shows, moved_to}
use Rattle.ledger_core.specs.After.{course_after, InHand}
use Rattle.ledger_core.proofs.Grown.{wait_grows}
use Rattle.ledger_core.proofs.InHands.{waits_again, unplanned_again}
use Rattle.ledger_core.proofs.SettleReplies.{drop_shows, retry_shows, next_row}
use Rattle.ledger_core.proofs.settling.retry.Goals as goal

pub returns-in-Wait-clause-grown : goal.returns-in-Wait-clause-grown
returns-in-Wait-clause-grown c = wait_grows c.args.books.now c.again.new.books _ _ c.requires.sorted c.again.ensures.books

pub returns-in-Wait-clause-shows : goal.returns-in-Wait-clause-shows
returns-in-Wait-clause-shows c = λ course s is_book hand.
    let again = waits_again c.args.plans.now s c.deref_mut.result.now.row c.retried.new.row c.args.failure.now.word c.in-Wait.ms c.in-Wait.ensures (ap (λ (n : Node). row_of n.row) c.deref_mut.ensures.value ∙ hand.row_is) in
    subst (λ reply. Shows c.args.plans.now (course_after course (Settle c.args.node.value.place.no c.args.node.value.place.sub c.args.node.value.place.at ended.Retry c.args.failure.now.moment c.args.failure.now.word c.args.failure.now.dead_aims.now) reply) c.again.new.books) (sym c.again.ensures.reply)
    (retry_shows c.args.plans.now course c.args.node.value.place (row_of c.args.node.value.row) c.retried.new.row.run s c.args.books.now c.again.new.books (c.args.failure.now.moment + c.in-Wait.ms) c.args.failure.now.moment c.args.failure.now.word c.args.failure.now.dead_aims.now is_book hand again.run_is
    (c.again.ensures.books
    ∙ ap (λ (row : Row). record c.args.books.now { waiting = put place_order (moved_to (c.args.failure.now.moment + c.in-Wait.ms) c.deref_mut.result.now.place) row c.args.books.now.waiting }) again.row_is
    ∙ ap (λ (n : Node). record c.args.books.now { waiting = put place_order (moved_to (c.args.failure.now.moment + c.in-Wait.ms) n.place) (next_row (row_of n.row) c.retried.new.row.run) c.args.books.now.waiting }) c.deref_mut.ensures.value))

pub returns-in-UsedUp-clause-shows : goal.returns-in-UsedUp-clause-shows
returns-in-UsedUp-clause-shows c = λ course s is_book hand.
    let same : record c.deref_mut.result.now { row = c.retried.new.row } ≡ c.args.node.value = ap (λ row. record c.deref_mut.result.now { row = row }) c.in-UsedUp.ensures.3 ∙ c.deref_mut.ensures.value in
    subst (λ (n : Node). Shows c.args.plans.now (course_after course (Settle n.place.no n.place.sub n.place.at ended.Retry c.args.failure.now.moment c.args.failure.now.word c.args.failure.now.dead_aims.now) c.bury.result) c.bury.new.books) same
    (c.bury.ensures.shows course s is_book (subst (λ (n : Node). InHand c.args.plans.now course n.place (row_of n.row) s c.args.books.now) (sym same) hand))

pub returns-in-UsedUp-2-clause-shows : goal.returns-in-UsedUp-2-clause-shows
returns-in-UsedUp-2-clause-shows c = λ course s is_book hand.
    let same : record c.deref_mut.result.now { row = c.retried.new.row } ≡ c.args.node.value = ap (λ row. record c.deref_mut.result.now { row = row }) c.in-UsedUp-2.ensures.3 ∙ c.deref_mut.ensures.value in
    subst (λ reply. Shows c.args.plans.now (course_after course (Settle c.args.node.value.place.no c.args.node.value.place.sub c.args.node.value.place.at ended.Retry c.args.failure.now.moment c.args.failure.now.word c.args.failure.now.dead_aims.now) reply) c.drop_row.new.books) (sym c.drop_row.ensures.reply)
    (drop_shows c.args.plans.now course c.args.node.value.place (row_of c.args.node.value.row) s c.args.books.now c.drop_row.new.books ended.Retry c.args.failure.now.moment c.args.failure.now.word c.args.failure.now.dead_aims.now UsedUp is_book hand
    (c.drop_row.ensures.books ∙ ap (λ (node : Node). record c.args.books.now { owed = c.args.books.now.owed - 1; bytes = c.args.books.now.bytes - (length (arc_value node.row.event) + length node.row.path); dropped = c.args.books.now.dropped + 1 }) (c.deref-in-UsedUp-2.ensures ∙ same)))

pub returns-in-Unplanned-clause-shows : goal.returns-in-Unplanned-clause-shows
returns-in-Unplanned-clause-shows c = λ course s is_book hand.
    let same : record c.deref_mut.result.now { row = c.retried.new.row } ≡ c.args.node.value = ap (λ row. record c.deref_mut.result.now { row = row }) c.in-Unplanned.ensures.1 ∙ c.deref_mut.ensures.value in
    subst (λ (n : Node). Shows c.args.plans.now (course_after course (Settle n.place.no n.place.sub n.place.at ended.Retry c.args.failure.now.moment c.args.failure.now.word c.args.failure.now.dead_aims.now) c.bury-in-Unplanned.result) c.bury-in-Unplanned.new.books) same
    (c.bury-in-Unplanned.ensures.shows course s is_book (subst (λ (n : Node). InHand c.args.plans.now course n.place (row_of n.row) s c.args.books.now) (sym same) hand))

pub returns-in-Unplanned-2-clause-grown : goal.returns-in-Unplanned-2-clause-grown
returns-in-Unplanned-2-clause-grown c = wait_grows c.args.books.now c.again-in-Unplanned-2.new.books _ _ c.requires.sorted c.again-in-Unplanned-2.ensures.books

pub returns-in-Unplanned-2-clause-shows : goal.returns-in-Unplanned-2-clause-shows
returns-in-Unplanned-2-clause-shows c = λ course s is_book hand.
    let same : record c.deref_mut.result.now { row = c.retried.new.row } ≡ c.args.node.value = ap (λ row. record c.deref_mut.result.now { row = row }) c.in-Unplanned-2.ensures.1 ∙ c.deref_mut.ensures.value in
    let here : c.deref_mut-in-Unplanned-2.result.now ≡ c.args.node.value = c.deref_mut-in-Unplanned-2.ensures.value ∙ same in
    let attempt : c.saturating_add.result ≡ min (c.args.node.value.row.attempt + 1) (2 ^ 64 - 1) = c.saturating_add.ensures ∙ ap (λ (n : Node). min (n.row.attempt + 1) (2 ^ 64 - 1)) (c.deref-in-Unplanned-2.ensures ∙ same) in
    let none = ap (λ (n : Node). n.row.run) (sym c.deref_mut.ensures.value) ∙ c.in-Unplanned-2.ensures.0 in
    subst (λ reply. Shows c.args.plans.now (course_after course (Settle c.args.node.value.place.no c.args.node.value.place.sub c.args.node.value.place.at ended.Retry c.args.failure.now.moment c.args.failure.now.word c.args.failure.now.dead_aims.now) reply) c.again-in-Unplanned-2.new.books) (sym c.again-in-Unplanned-2.ensures.reply)
    (retry_shows c.args.plans.now course c.args.node.value.place (row_of c.args.node.value.row) c.args.node.value.row.run s c.args.books.now c.again-in-Unplanned-2.new.books (c.args.failure.now.moment + 1000) c.args.failure.now.moment c.args.failure.now.word c.args.failure.now.dead_aims.now is_book hand (none ∙ unplanned_again c.args.plans.now s c.args.node.value.row c.args.failure.now.word none hand.row_is)
    (c.again-in-Unplanned-2.ensures.books
    ∙ (λ i. record c.args.books.now {
      waiting = put place_order (moved_to (c.args.failure.now.moment + 1000) (here i).place) (record {
        path = (here i).row.path;
        event = arc_value (here i).row.event;
        hops = (here i).row.hops;
        attempt = attempt i;
        run = (here i).row.run;
        dead = (here i).row.dead;
      }) c.args.books.now.waiting;
    })))
