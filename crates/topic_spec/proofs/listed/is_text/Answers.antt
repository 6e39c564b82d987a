use Rattle.std.proofs.Common.{ap, sym, ◌∙◌}
use Rattle.topic_spec.specs.Listed.{is_text, kind_of}
use Rattle.topic_spec.proofs.Members.{at_node}
use Rattle.topic_spec.proofs.listed.is_text.Goals as goal

pub returns : goal.returns
returns c values at = at_node c.args.doc.now c.args.n _ c.is_text.ensures values at ∙ ap (λ v. is_text (kind_of v)) (sym at.are)
