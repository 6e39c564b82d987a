use Rattle.std.proofs.Common.{◌≡◌, ◌+◌, ◌-◌, ap, sym, ◌∙◌, subst, arith, length}
use Rattle.std.specs.Arc.{arc_value}
use Rattle.ledger_core.specs.declared.books.Books.{Books}
use Rattle.ledger_core.specs.declared.tree.Node.{Node}
use Rattle.ledger_core.specs.declared.command.Finish.TheVariants.{Retry}
use Rattle.ledger_core.specs.declared.command.LedgerCmd.TheVariants.{Settle}
use Rattle.ledger_core.specs.declared.reply.Reason.TheVariants.{Hops}
use Rattle.ledger_core.specs.Size.{new_rows, new_bytes}
use Rattle.ledger_core.specs.Rows.{entries_in}
use Rattle.ledger_core.specs.Tree.{row_of}
use Rattle.ledger_core.specs.Books.{Shows, moved_to}
use Rattle.ledger_core.specs.After.{course_after, entries_for, fresh}
use Rattle.ledger_core.proofs.Once.{are_once}
use Rattle.ledger_core.proofs.AcceptSteps.{within_limits}
use Rattle.ledger_core.proofs.SettleReplies.{drop_shows, full_shows, wanting_shows, dead_shows}
use Rattle.ledger_core.proofs.Grown.{wait_grows, add_grows}
use Rattle.ledger_core.proofs.NewRows.{short_entries}
use Rattle.ledger_core.proofs.settling.bury.Goals as goal

pub returns-then-deref-ge-MOST_HOPS-clause-shows : goal.returns-then-deref-ge-MOST_HOPS-clause-shows
returns-then-deref-ge-MOST_HOPS-clause-shows c = λ course s is_book hand.
    subst (λ reply. Shows c.args.plans.now (course_after course (Settle c.args.node.value.place.no c.args.node.value.place.sub c.args.node.value.place.at Retry c.args.failure.now.moment c.args.failure.now.word c.args.failure.now.dead_aims.now) reply) c.drop_row.new.books)
    (sym c.drop_row.ensures.reply)
    (drop_shows c.args.plans.now course c.args.node.value.place (row_of c.args.node.value.row) s c.args.books.now c.drop_row.new.books Retry c.args.failure.now.moment c.args.failure.now.word c.args.failure.now.dead_aims.now Hops is_book hand
    (c.drop_row.ensures.books ∙ ap (λ (node : Node). record c.args.books.now { owed = c.args.books.now.owed - 1; bytes = c.args.books.now.bytes - (length (arc_value node.row.event) + length node.row.path); dropped = c.args.books.now.dropped + 1 }) c.deref-then-deref-ge-MOST_HOPS.ensures))

pub returns-then-is_over-clause-grown : goal.returns-then-is_over-clause-grown
returns-then-is_over-clause-grown c = wait_grows c.args.books.now c.wait.new.self (moved_to (c.args.failure.now.moment + 1000) c.args.node.value.place) (row_of c.args.node.value.row) c.requires.sorted c.wait.ensures

pub returns-then-is_over-clause-shows : goal.returns-then-is_over-clause-shows
returns-then-is_over-clause-shows c = λ course s is_book hand.
    full_shows c.args.plans.now course c.args.node.value.place (row_of c.args.node.value.row) s c.args.books.now c.wait.new.self c.args.failure.now.moment c.args.failure.now.word c.args.failure.now.dead_aims.now _ _ is_book hand c.wait.ensures

pub returns-in-Err-clause-grown : goal.returns-in-Err-clause-grown
returns-in-Err-clause-grown c = wait_grows c.args.books.now c.wait-in-Err.new.self (moved_to c.args.failure.now.moment c.args.node.value.place) (row_of c.args.node.value.row) c.requires.sorted c.wait-in-Err.ensures

pub returns-in-Err-clause-shows : goal.returns-in-Err-clause-shows
returns-in-Err-clause-shows c = λ course s is_book hand.
    wanting_shows c.args.plans.now course c.args.node.value.place (row_of c.args.node.value.row) s c.args.books.now c.wait-in-Err.new.self c.args.failure.now.moment c.args.failure.now.word c.args.failure.now.dead_aims.now is_book hand c.wait-in-Err.ensures

pub returns-in-Ok-clause-grown : goal.returns-in-Ok-clause-grown
returns-in-Ok-clause-grown c =
    let within = within_limits c.with-size.result.rows c.with-size.result.bytes (sym c.is_over.ensures ∙ c.if-is_over.false) in
    add_grows c.args.books.now _ (entries_in c.in-Ok.rows.nodes) c.with-size.result.rows c.with-size.result.bytes c.in-Ok.rows.drops 1 c.requires.sorted within.0 within.1 c.in-Ok.ensures.few (short_entries c.in-Ok.rows.nodes c.in-Ok.ensures.short) (omega arith)
    (ap (λ (b : Books). record b { dead = b.dead + 1 }) c.add.ensures)

pub returns-in-Ok-clause-shows : goal.returns-in-Ok-clause-shows
returns-in-Ok-clause-shows c = λ course s is_book hand.
    let rows_are : c.with-size.result.rows ≡ (c.args.books.now.owed - 1) + new_rows c.args.failure.now.dead_aims.now =
    c.with-size.ensures.rows ∙ ap (λ n. n + new_rows c.args.failure.now.dead_aims.now) c.size_without.ensures.rows in
    let bytes_are : c.with-size.result.bytes ≡ (c.args.books.now.bytes - (length (arc_value c.args.node.value.row.event) + length c.args.node.value.row.path)) + new_bytes (length (arc_value c.args.node.value.row.event)) c.args.failure.now.dead_aims.now =
    c.with-size.ensures.bytes ∙ ap (λ n. n + new_bytes (length c.bytes.result.now) c.args.failure.now.dead_aims.now) c.size_without.ensures.bytes
    ∙ ap (λ bytes. (c.args.books.now.bytes - (length (arc_value c.deref-2.result.now.row.event) + length c.deref-2.result.now.row.path)) + new_bytes (length bytes) c.args.failure.now.dead_aims.now) (c.bytes.ensures ∙ c.deref-4.ensures ∙ ap (λ (node : Node). arc_value node.row.event) c.deref-3.ensures)
    ∙ ap (λ (node : Node). (c.args.books.now.bytes - (length (arc_value node.row.event) + length node.row.path)) + new_bytes (length (arc_value c.args.node.value.row.event)) c.args.failure.now.dead_aims.now) c.deref-2.ensures in
    dead_shows c.args.plans.now course c.args.node.value.place (row_of c.args.node.value.row) s c.args.books.now _ c.args.failure.now.moment c.args.failure.now.word c.add.new.self.made c.args.failure.now.dead_aims.now is_book hand (are_once c.args.failure.now.dead_aims.now c.requires.aims.once)
    (entries_in c.in-Ok.rows.nodes) (c.in-Ok.ensures.rows ∙ ap (λ (node : Node). entries_for c.args.plans.now (fresh (c.args.books.now.made + 1) (arc_value node.row.event) (node.row.hops + 1) c.args.failure.now.moment c.args.failure.now.dead_aims.now)) c.deref-5.ensures)
    (ap (λ (b : Books). record b { dead = b.dead + 1 }) c.add.ensures
    ∙ (λ i. record c.args.books.now {
      waiting = Rattle.ledger_core.specs.Books.put_all (entries_in c.in-Ok.rows.nodes) c.args.books.now.waiting;
      made = c.args.books.now.made + 1;
      owed = rows_are i;
      bytes = bytes_are i;
      dropped = c.args.books.now.dropped + c.in-Ok.ensures.drops i;
      dead = c.args.books.now.dead + 1;
    }))
