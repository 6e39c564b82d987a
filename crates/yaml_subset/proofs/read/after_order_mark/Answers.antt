use Rattle.std.proofs.Common.{◌∙◌}
use Rattle.yaml_subset.proofs.OrderMark.{marked, not_marked}
use Rattle.yaml_subset.proofs.read.after_order_mark.Goals as goal

pub returns-in-Some : goal.returns-in-Some
returns-in-Some c = let (n, h, d, _) = c.in-Some.ensures.cases in d ∙ marked c.args.text.now _ h.split

pub returns-in-None : goal.returns-in-None
returns-in-None c = not_marked c.args.text.now c.in-None.ensures.cases
