use Rattle.std.proofs.Common.{◌+◌, ap, sym, ◌∙◌, subst, arith, length}
use Rattle.std.specs.Prelude.{IsTrue}
use Rattle.std.specs.FinMap.{is_sorted}
use Rattle.ledger_core.specs.Place.{place_order}
use Rattle.ledger_core.specs.Size.{new_rows, new_bytes}
use Rattle.ledger_core.specs.Rows.{entries_in}
use Rattle.ledger_core.specs.declared.books.Books.{Books}
use Rattle.ledger_core.specs.Books.{put_all}
use Rattle.ledger_core.proofs.Once.{are_once}
use Rattle.ledger_core.proofs.AcceptSteps.{accept_full, accept_wanting, accept_added, within_limits}
use Rattle.ledger_core.proofs.Sorted.{sorted_put_all}
use Rattle.ledger_core.proofs.Sizes.{put_all_size}
use Rattle.ledger_core.proofs.NewRows.{short_entries}
use Rattle.ledger_core.proofs.accepting.accept.Goals as goal

pub returns-then-is_over-clause-step : goal.returns-then-is_over-clause-step
returns-then-is_over-clause-step c = λ course is_book shows.
    accept_full c.args.plans.now course c.args.books.now c.args.event.now c.args.aims.now c.args.now c.with-size.result.rows c.with-size.result.bytes shows
    (c.with-size.ensures.rows ∙ ap (λ n. n + new_rows c.args.aims.now) c.size.ensures.rows)
    (c.with-size.ensures.bytes ∙ ap (λ n. n + new_bytes (length c.bytes.result.now) c.args.aims.now) c.size.ensures.bytes ∙ ap (λ bytes. c.args.books.now.bytes + new_bytes (length bytes) c.args.aims.now) c.bytes.ensures)
    (sym c.is_over.ensures ∙ c.if-is_over.true)

pub returns-in-Err-clause-step : goal.returns-in-Err-clause-step
returns-in-Err-clause-step c = λ course is_book shows.
    accept_wanting c.args.plans.now course c.args.books.now c.args.event.now c.args.aims.now c.args.now c.with-size.result.rows c.with-size.result.bytes shows
    (c.with-size.ensures.rows ∙ ap (λ n. n + new_rows c.args.aims.now) c.size.ensures.rows)
    (c.with-size.ensures.bytes ∙ ap (λ n. n + new_bytes (length c.bytes.result.now) c.args.aims.now) c.size.ensures.bytes ∙ ap (λ bytes. c.args.books.now.bytes + new_bytes (length bytes) c.args.aims.now) c.bytes.ensures)
    (sym c.is_over.ensures ∙ c.if-is_over.false)

pub returns-in-Ok-clause-step : goal.returns-in-Ok-clause-step
returns-in-Ok-clause-step c = λ course is_book shows.
    accept_added c.args.plans.now course c.args.books.now c.add.new.self c.args.event.now c.args.aims.now c.args.now c.with-size.result.rows c.with-size.result.bytes is_book shows (are_once c.args.aims.now c.requires.aims.once)
    (c.with-size.ensures.rows ∙ ap (λ n. n + new_rows c.args.aims.now) c.size.ensures.rows)
    (c.with-size.ensures.bytes ∙ ap (λ n. n + new_bytes (length c.bytes.result.now) c.args.aims.now) c.size.ensures.bytes ∙ ap (λ bytes. c.args.books.now.bytes + new_bytes (length bytes) c.args.aims.now) c.bytes.ensures)
    (sym c.is_over.ensures ∙ c.if-is_over.false)
    (record {
      waiting = ap (λ (b : Books). b.waiting) c.add.ensures ∙ ap (λ es. put_all es c.args.books.now.waiting) c.in-Ok.ensures.rows;
      held = ap (λ (b : Books). b.held) c.add.ensures;
      made_is = ap (λ (b : Books). b.made) c.add.ensures;
      claims = ap (λ (b : Books). b.claims) c.add.ensures;
      owed = ap (λ (b : Books). b.owed) c.add.ensures ∙ c.with-size.ensures.rows ∙ ap (λ n. n + new_rows c.args.aims.now) c.size.ensures.rows;
      done = ap (λ (b : Books). b.done) c.add.ensures;
      dropped = ap (λ (b : Books). b.dropped) c.add.ensures ∙ ap (λ n. c.args.books.now.dropped + n) c.in-Ok.ensures.drops;
      dead = ap (λ (b : Books). b.dead) c.add.ensures;
      bytes = ap (λ (b : Books). b.bytes) c.add.ensures ∙ c.with-size.ensures.bytes ∙ ap (λ n. n + new_bytes (length c.bytes.result.now) c.args.aims.now) c.size.ensures.bytes ∙ ap (λ bytes. c.args.books.now.bytes + new_bytes (length bytes) c.args.aims.now) c.bytes.ensures;
    })

pub returns-in-Ok-clause-grown : goal.returns-in-Ok-clause-grown
returns-in-Ok-clause-grown c =
    let within = within_limits c.with-size.result.rows c.with-size.result.bytes (sym c.is_over.ensures ∙ c.if-is_over.false) in
    let few = c.in-Ok.ensures.few in
    record {
      bounded = λ used bounded. record {
        rows =
            let w = ap (λ (b : Books). length b.waiting) c.add.ensures in
            let h = ap (λ (b : Books). length b.held) c.add.ensures in
            let more = put_all_size (entries_in c.in-Ok.rows.nodes) c.args.books.now.waiting c.requires.sorted.waiting in
            let short = short_entries c.in-Ok.rows.nodes c.in-Ok.ensures.short in
            let g = bounded.rows in
            omega (arith, w, h, more, short, g);
        made = let e = ap (λ (b : Books). b.made) c.add.ensures in let g = bounded.made in omega (arith, e, g);
        claims = let e = ap (λ (b : Books). b.claims) c.add.ensures in let g = bounded.claims in omega (arith, e, g);
        done = let e = ap (λ (b : Books). b.done) c.add.ensures in let g = bounded.done in omega (arith, e, g);
        dead = let e = ap (λ (b : Books). b.dead) c.add.ensures in let g = bounded.dead in omega (arith, e, g);
        dropped = let e = ap (λ (b : Books). b.dropped) c.add.ensures in let g = bounded.dropped in omega (arith, e, g, few);
        owed = let e = ap (λ (b : Books). b.owed) c.add.ensures in let g = within.0 in omega (arith, e, g);
        bytes = let e = ap (λ (b : Books). b.bytes) c.add.ensures in let g = within.1 in omega (arith, e, g);
      };
      sorted = record {
        waiting = subst (λ es. IsTrue (is_sorted place_order es)) (sym (ap (λ (b : Books). b.waiting) c.add.ensures)) (sorted_put_all (entries_in c.in-Ok.rows.nodes) c.args.books.now.waiting c.requires.sorted.waiting);
        held = subst (λ es. IsTrue (is_sorted place_order es)) (sym (ap (λ (b : Books). b.held) c.add.ensures)) c.requires.sorted.held;
      };
    }
