use Rattle.std.proofs.Common.{◌+◌, ◌-◌, ap, sym, ◌∙◌, subst, arith, refl, length}
use Rattle.std.specs.FinMap.{put}
use Rattle.std.specs.Arc.{arc_value}
use Rattle.ledger_core.specs.declared.place.Place.{Place}
use Rattle.ledger_core.specs.declared.books.Books.{Books}
use Rattle.ledger_core.specs.declared.tree.Node.{Node}
use Rattle.ledger_core.specs.declared.command.Finish.TheVariants as ended
use Rattle.ledger_core.specs.declared.command.LedgerCmd.TheVariants.{Settle}
use Rattle.ledger_core.specs.declared.reply.LedgerReply.TheVariants as says
use Rattle.ledger_core.specs.declared.reply.Reason.TheVariants.{Asked}
use Rattle.ledger_core.specs.Place.{place_order}
use Rattle.ledger_core.specs.Tree.{row_of}
use Rattle.ledger_core.specs.Books.{Shows, moved_to}
use Rattle.ledger_core.specs.After.{course_after, IsStepOf, InHand}
use Rattle.ledger_core.proofs.Grown.{stay_grows, out_grows, out_sorted, out_room, wait_grows, close_grows}
use Rattle.ledger_core.proofs.InHands.{in_hand, settled_step, not_taken}
use Rattle.ledger_core.proofs.SettleReplies.{done_shows, drop_shows, later_shows}
use Rattle.ledger_core.proofs.settling.settle.Goals as goal

pub returns-in_default-clause-grown : goal.returns-in_default-clause-grown
returns-in_default-clause-grown c = out_grows c.args.books.now c.take_held.new.self c.take_held.new.self c.args.place.now c.take_held.ensures.rest (stay_grows c.take_held.new.self (out_sorted c.args.books.now c.take_held.new.self c.args.place.now c.take_held.ensures.rest c.requires.sorted))

pub returns-in_default-clause-step : goal.returns-in_default-clause-step
returns-in_default-clause-step c = λ course is_book shows. not_taken c.args.plans.now course c.args.books.now c.take_held.new.self c.args.place.now c.args.finish c.args.failure.now.moment c.args.failure.now.word c.args.failure.now.dead_aims.now shows c.in_default.ensures.found c.take_held.ensures.rest

pub again-requires-clause-sorted : goal.again-requires-clause-sorted
again-requires-clause-sorted c = out_sorted c.args.books.now c.take_held.new.self c.args.place.now c.take_held.ensures.rest c.requires.sorted

pub again-requires-clause-room : goal.again-requires-clause-room
again-requires-clause-room c = let room = (out_room c.args.books.now c.take_held.new.self c.args.place.now c.take_held.ensures.rest c.requires.room).rows in omega (arith, room)

pub retry-requires-clause-room : goal.retry-requires-clause-room
retry-requires-clause-room c = out_room c.args.books.now c.take_held.new.self c.args.place.now c.take_held.ensures.rest c.requires.room

pub retry-requires-clause-sorted : goal.retry-requires-clause-sorted
retry-requires-clause-sorted c = out_sorted c.args.books.now c.take_held.new.self c.args.place.now c.take_held.ensures.rest c.requires.sorted

pub returns-in-Success-clause-grown : goal.returns-in-Success-clause-grown
returns-in-Success-clause-grown c =
    out_grows c.args.books.now c.take_held.new.self _ c.args.place.now c.take_held.ensures.rest
    (close_grows c.take_held.new.self _ _ (c.take_held.new.self.done + 1) c.take_held.new.self.dropped (out_sorted c.args.books.now c.take_held.new.self c.args.place.now c.take_held.ensures.rest c.requires.sorted) (omega arith) (omega arith) (omega arith)
    (ap (λ (b : Books). record b { done = b.done + 1 }) c.close.ensures))

pub returns-in-Success-clause-step : goal.returns-in-Success-clause-step
returns-in-Success-clause-step c = λ course is_book shows.
    let hand = in_hand c.args.plans.now course c.args.books.now c.take_held.new.self c.args.place.now (row_of c.in-Some.node.value.row) shows c.in-Some.ensures.found c.take_held.ensures.rest in
    subst (λ finish. IsStepOf c.args.plans.now course (Settle c.args.place.now.no c.args.place.now.sub c.args.place.now.at finish c.args.failure.now.moment c.args.failure.now.word c.args.failure.now.dead_aims.now) says.Done (record c.close.new.self { done = c.close.new.self.done + 1 })) (sym c.in-Success.is)
    (settled_step c.args.plans.now course c.args.place.now ended.Success c.args.failure.now.moment c.args.failure.now.word c.args.failure.now.dead_aims.now says.Done _ hand.0 hand.1.there refl
    (done_shows c.args.plans.now course c.args.place.now (row_of c.in-Some.node.value.row) hand.0 c.take_held.new.self _ ended.Success c.args.failure.now.moment c.args.failure.now.word c.args.failure.now.dead_aims.now is_book hand.1
    (ap (λ (b : Books). record b { done = b.done + 1 }) c.close.ensures ∙ ap (λ (node : Node). record c.take_held.new.self { owed = c.take_held.new.self.owed - 1; bytes = c.take_held.new.self.bytes - (length (arc_value node.row.event) + length node.row.path); done = c.take_held.new.self.done + 1 }) c.deref.ensures)))

pub returns-in-Drop-clause-grown : goal.returns-in-Drop-clause-grown
returns-in-Drop-clause-grown c =
    out_grows c.args.books.now c.take_held.new.self _ c.args.place.now c.take_held.ensures.rest
    (close_grows c.take_held.new.self _ _ c.take_held.new.self.done (c.take_held.new.self.dropped + 1) (out_sorted c.args.books.now c.take_held.new.self c.args.place.now c.take_held.ensures.rest c.requires.sorted) (omega arith) (omega arith) (omega arith)
    c.drop_row.ensures.books)

pub returns-in-Drop-clause-step : goal.returns-in-Drop-clause-step
returns-in-Drop-clause-step c = λ course is_book shows.
    let hand = in_hand c.args.plans.now course c.args.books.now c.take_held.new.self c.args.place.now (row_of c.in-Some.node.value.row) shows c.in-Some.ensures.found c.take_held.ensures.rest in
    subst (λ finish. IsStepOf c.args.plans.now course (Settle c.args.place.now.no c.args.place.now.sub c.args.place.now.at finish c.args.failure.now.moment c.args.failure.now.word c.args.failure.now.dead_aims.now) c.drop_row.result c.drop_row.new.books) (sym c.in-Drop.is)
    (subst (λ reply. IsStepOf c.args.plans.now course (Settle c.args.place.now.no c.args.place.now.sub c.args.place.now.at ended.Drop c.args.failure.now.moment c.args.failure.now.word c.args.failure.now.dead_aims.now) reply c.drop_row.new.books) (sym c.drop_row.ensures.reply)
    (settled_step c.args.plans.now course c.args.place.now ended.Drop c.args.failure.now.moment c.args.failure.now.word c.args.failure.now.dead_aims.now (says.Dropped Asked) c.drop_row.new.books hand.0 hand.1.there refl
    (drop_shows c.args.plans.now course c.args.place.now (row_of c.in-Some.node.value.row) hand.0 c.take_held.new.self c.drop_row.new.books ended.Drop c.args.failure.now.moment c.args.failure.now.word c.args.failure.now.dead_aims.now Asked is_book hand.1
    (c.drop_row.ensures.books ∙ ap (λ (node : Node). record c.take_held.new.self { owed = c.take_held.new.self.owed - 1; bytes = c.take_held.new.self.bytes - (length (arc_value node.row.event) + length node.row.path); dropped = c.take_held.new.self.dropped + 1 }) c.deref-in-Drop.ensures))))

pub returns-in-Later-clause-grown : goal.returns-in-Later-clause-grown
returns-in-Later-clause-grown c =
    out_grows c.args.books.now c.take_held.new.self c.again.new.books c.args.place.now c.take_held.ensures.rest
    (wait_grows c.take_held.new.self c.again.new.books (moved_to c.in-Later.at c.in-Some.node.value.place) (row_of c.in-Some.node.value.row) (out_sorted c.args.books.now c.take_held.new.self c.args.place.now c.take_held.ensures.rest c.requires.sorted) c.again.ensures.books)

pub returns-in-Later-clause-step : goal.returns-in-Later-clause-step
returns-in-Later-clause-step c = λ course is_book shows.
    let hand = in_hand c.args.plans.now course c.args.books.now c.take_held.new.self c.args.place.now (row_of c.in-Some.node.value.row) shows c.in-Some.ensures.found c.take_held.ensures.rest in
    subst (λ finish. IsStepOf c.args.plans.now course (Settle c.args.place.now.no c.args.place.now.sub c.args.place.now.at finish c.args.failure.now.moment c.args.failure.now.word c.args.failure.now.dead_aims.now) c.again.result c.again.new.books) (sym c.in-Later.is)
    (subst (λ reply. IsStepOf c.args.plans.now course (Settle c.args.place.now.no c.args.place.now.sub c.args.place.now.at (ended.Later c.in-Later.at) c.args.failure.now.moment c.args.failure.now.word c.args.failure.now.dead_aims.now) reply c.again.new.books) (sym c.again.ensures.reply)
    (settled_step c.args.plans.now course c.args.place.now (ended.Later c.in-Later.at) c.args.failure.now.moment c.args.failure.now.word c.args.failure.now.dead_aims.now (says.Again c.in-Later.at) c.again.new.books hand.0 hand.1.there refl
    (later_shows c.args.plans.now course c.args.place.now (row_of c.in-Some.node.value.row) hand.0 c.take_held.new.self c.again.new.books c.in-Later.at c.args.failure.now.moment c.args.failure.now.word c.args.failure.now.dead_aims.now is_book hand.1
    (c.again.ensures.books ∙ ap (λ (place : Place). record c.take_held.new.self { waiting = put place_order (moved_to c.in-Later.at place) (row_of c.in-Some.node.value.row) c.take_held.new.self.waiting }) c.in-Some.ensures.placed))))

pub returns-in-Retry-clause-grown : goal.returns-in-Retry-clause-grown
returns-in-Retry-clause-grown c = out_grows c.args.books.now c.take_held.new.self c.retry.new.books c.args.place.now c.take_held.ensures.rest c.retry.ensures.grown

pub returns-in-Retry-clause-step : goal.returns-in-Retry-clause-step
returns-in-Retry-clause-step c = λ course is_book shows.
    let hand = in_hand c.args.plans.now course c.args.books.now c.take_held.new.self c.args.place.now (row_of c.in-Some.node.value.row) shows c.in-Some.ensures.found c.take_held.ensures.rest in
    let there = subst (λ (place : Place). InHand c.args.plans.now course place (row_of c.in-Some.node.value.row) hand.0 c.take_held.new.self) (sym c.in-Some.ensures.placed) hand.1 in
    subst (λ finish. IsStepOf c.args.plans.now course (Settle c.args.place.now.no c.args.place.now.sub c.args.place.now.at finish c.args.failure.now.moment c.args.failure.now.word c.args.failure.now.dead_aims.now) c.retry.result c.retry.new.books) (sym c.in-Retry.is)
    (settled_step c.args.plans.now course c.args.place.now ended.Retry c.args.failure.now.moment c.args.failure.now.word c.args.failure.now.dead_aims.now c.retry.result c.retry.new.books hand.0 hand.1.there (c.retry.ensures.reply course hand.0 is_book there)
    (subst (λ (place : Place). Shows c.args.plans.now (course_after course (Settle place.no place.sub place.at ended.Retry c.args.failure.now.moment c.args.failure.now.word c.args.failure.now.dead_aims.now) c.retry.result) c.retry.new.books) c.in-Some.ensures.placed
    (c.retry.ensures.shows course hand.0 is_book there)))
