use Rattle.std.proofs.Common.{sym, ap, ◌∙◌}
use Rattle.json_text.specs.Shape.{is_holder}
use Rattle.json_text.proofs.FirstHolders.{found_at, found_nowhere}
use Rattle.json_text.proofs.doc.Doc.first_inside.Goals as goal

pub returns-then-is_holder-clause-first : goal.returns-then-is_holder-clause-first
returns-then-is_holder-clause-first c root is =
    found_at c.args.self.now c.deref-entry-items.result.now c.args.depth c.loop-number.number _ root c.deref-entry-items.ensures.value c.loop-number-test.true c.loop-number.invariant (ap (λ e. e.depth) (sym c.entry-item.is) ∙ sym c.depth.ensures ∙ c.if-depth.true) (ap (λ e. is_holder e.spot.kind) (sym c.entry-item.is) ∙ sym (c.is_holder.ensures ∙ ap is_holder c.kind.ensures) ∙ c.if-is_holder.true) is

pub returns-clause-first : goal.returns-clause-first
returns-clause-first c root is =
    found_nowhere c.args.self.now c.deref-entry-items.result.now c.args.depth c.loop-number.number root c.deref-entry-items.ensures.value c.loop-number-test.false c.loop-number.invariant is
