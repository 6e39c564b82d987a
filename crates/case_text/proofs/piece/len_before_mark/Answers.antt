use Rattle.std.proofs.Common.{sym, ◌∙◌, arith}
use Rattle.std.proofs.Math.ListN.{drop_of_length-le}
use Rattle.case_text.proofs.Marks.{further, here, nowhere, next_at}
use Rattle.case_text.proofs.piece.len_before_mark.Goals as goal

pub returns-then-is_marked-clause-value : goal.returns-then-is_marked-clause-value
returns-then-is_marked-clause-value c = here c.args.mark.now c.args.text.now c.loop-place.starts c.loop-place.place _ _ _ (next_at c.args.text.now c.loop-place.place c.loop-place-test.true) (sym c.is_marked.ensures ∙ c.if-is_marked.true) c.loop-place.invariant

pub loop-place-preserved : goal.loop-place-preserved
loop-place-preserved c = further c.args.mark.now c.args.text.now c.loop-place.starts c.loop-place.place _ _ _ (next_at c.args.text.now c.loop-place.place c.loop-place-test.true) (sym c.is_marked.ensures ∙ c.if-is_marked.false) c.loop-place.invariant

pub returns-clause-value : goal.returns-clause-value
returns-clause-value c = nowhere c.args.mark.now c.args.text.now c.loop-place.starts c.loop-place.place _ (drop_of_length-le c.args.text.now c.loop-place-test.false) (omega (arith, c.loop-place-test.false)) c.loop-place.invariant
