use Rattle.std.proofs.Common.{sym, ◌∙◌}
use Rattle.yaml_subset.proofs.Opens.{kept_all, kept_on, kept_here, kept_none, kept_end, below_is, not_below}
use Rattle.yaml_subset.proofs.place.kept_of.Goals as goal

pub loop-last-init : goal.loop-last-init
loop-last-init c frames e = kept_all c.args.holder c.args.column c.args.opened.now frames e

pub returns-then-is_row_of : goal.returns-then-is_row_of
returns-then-is_row_of c frames e = kept_here c.args.holder c.args.column c.loop-last.left.now c.in-Some.outer.now c.in-Some.last.now frames c.in-Some.ensures.cases.0 (sym c.is_row_of.ensures ∙ c.if-is_row_of.true) (c.loop-last.invariant frames e)

pub returns-then-last-column : goal.returns-then-last-column
returns-then-last-column c frames e = kept_none c.args.holder c.args.column c.loop-last.left.now c.in-Some.outer.now c.in-Some.last.now frames c.in-Some.ensures.cases.0 (sym c.is_row_of.ensures ∙ c.if-is_row_of.false) (below_is c.in-Some.last.now.column c.args.column c.if-last-column.true) (c.loop-last.invariant frames e)

pub loop-last-preserved : goal.loop-last-preserved
loop-last-preserved c frames e = kept_on c.args.holder c.args.column c.loop-last.left.now c.in-Some.outer.now c.in-Some.last.now frames c.in-Some.ensures.cases.0 (sym c.is_row_of.ensures ∙ c.if-is_row_of.false) (not_below c.in-Some.last.now.column c.args.column c.if-last-column.false) (c.loop-last.invariant frames e)

pub returns : goal.returns
returns c frames e = kept_end c.args.holder c.args.column c.loop-last.left.now frames c.in_default.ensures.cases (c.loop-last.invariant frames e)
