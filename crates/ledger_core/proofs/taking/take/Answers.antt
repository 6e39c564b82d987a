use Rattle.std.proofs.Common.{◌+◌, length, refl, ap, sym, subst, arith}
use Rattle.std.specs.Prelude.{IsTrue}
use Rattle.std.specs.FinMap.{is_sorted}
use Rattle.ledger_core.specs.declared.books.Books.{Books}
use Rattle.ledger_core.specs.Place.{place_order}
use Rattle.ledger_core.specs.Tree.{entry_of}
use Rattle.ledger_core.specs.Books.{moved_to}
use Rattle.ledger_core.proofs.TakeSteps.{take_none, take_later, take_wanting, take_first, at_front, no_front, rest_sorted}
use Rattle.ledger_core.proofs.Sorted.{sorted_put}
use Rattle.ledger_core.proofs.Sizes.{put_size}
use Rattle.ledger_core.proofs.taking.take.Goals as goal

pub returns-in_default-clause-step : goal.returns-in_default-clause-step
returns-in_default-clause-step c = λ plans course is_book shows. take_none plans course c.args.books.now c.args.now shows (no_front _ (sym c.in_default.ensures))

pub returns-then-now-place-clause-step : goal.returns-then-now-place-clause-step
returns-then-now-place-clause-step c = λ plans course is_book shows.
    let front = at_front _ (entry_of c.in-Some.node.now) (sym c.in-Some.ensures) in
    take_later plans course c.args.books.now c.args.now (entry_of c.in-Some.node.now) front.0 shows front.1 c.requires.sorted.waiting c.if-now-place.true

pub returns-in-Err-clause-step : goal.returns-in-Err-clause-step
returns-in-Err-clause-step c = λ plans course is_book shows.
    let front = at_front _ (entry_of c.in-Some.node.now) (sym c.in-Some.ensures) in
    take_wanting plans course c.args.books.now c.args.now (entry_of c.in-Some.node.now) front.0 shows front.1 c.requires.sorted.waiting c.if-now-place.false

pub returns-in-Ok-clause-step : goal.returns-in-Ok-clause-step
returns-in-Ok-clause-step c = λ plans course is_book shows.
    let front = at_front c.args.books.now.waiting (entry_of c.in-Some.node.now) (sym c.in-Some.ensures) in
    let after = c.hold_first.ensures (entry_of c.in-Some.node.now) front.0 front.1 in
    take_first plans course c.args.books.now c.hold_first.new.self c.args.now (entry_of c.in-Some.node.now) front.0 c.hold_first.new.self.claims c.in-Ok.event c.in-Ok.path c.in-Some.node.now.row.attempt
    is_book shows front.1 c.requires.sorted.waiting c.if-now-place.false
    c.in-Ok.ensures.0 c.in-Ok.ensures.1 refl (ap (λ (b : Books). b.claims) after) after

pub returns-in-Ok-clause-grown : goal.returns-in-Ok-clause-grown
returns-in-Ok-clause-grown c =
    let front = at_front c.args.books.now.waiting (entry_of c.in-Some.node.now) (sym c.in-Some.ensures) in
    let after = c.hold_first.ensures (entry_of c.in-Some.node.now) front.0 front.1 in
    record {
      bounded = λ used bounded. record {
        rows =
            let w = ap (λ (b : Books). length b.waiting) after in
            let h = ap (λ (b : Books). length b.held) after in
            let one = ap length front.1 in
            let more = (put_size c.args.books.now.held (moved_to (c.args.books.now.claims + 1) (entry_of c.in-Some.node.now).0) (entry_of c.in-Some.node.now).1 c.requires.sorted.held).most in
            let g = bounded.rows in
            omega (arith, w, h, one, more, g);
        made = let e = ap (λ (b : Books). b.made) after in let g = bounded.made in omega (arith, e, g);
        claims = let e = ap (λ (b : Books). b.claims) after in let g = bounded.claims in omega (arith, e, g);
        done = let e = ap (λ (b : Books). b.done) after in let g = bounded.done in omega (arith, e, g);
        dead = let e = ap (λ (b : Books). b.dead) after in let g = bounded.dead in omega (arith, e, g);
        dropped = let e = ap (λ (b : Books). b.dropped) after in let g = bounded.dropped in omega (arith, e, g);
        owed = let e = ap (λ (b : Books). b.owed) after in let g = bounded.owed in omega (arith, e, g);
        bytes = let e = ap (λ (b : Books). b.bytes) after in let g = bounded.bytes in omega (arith, e, g);
      };
      sorted = record {
        waiting = subst (λ es. IsTrue (is_sorted place_order es)) (sym (ap (λ (b : Books). b.waiting) after)) (rest_sorted c.args.books.now.waiting (entry_of c.in-Some.node.now) front.0 front.1 c.requires.sorted.waiting);
        held = subst (λ es. IsTrue (is_sorted place_order es)) (sym (ap (λ (b : Books). b.held) after)) (sorted_put c.args.books.now.held (moved_to (c.args.books.now.claims + 1) (entry_of c.in-Some.node.now).0) (entry_of c.in-Some.node.now).1 c.requires.sorted.held);
      };
    }
