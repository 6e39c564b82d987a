use Rattle.std.proofs.Common.{◌∙◌, ap, ◌==◌}
use Rattle.std.specs.Prelude.{count_by}
use Rattle.yaml_subset.specs.declared.node.Node.{Node}
use Rattle.yaml_subset.proofs.Walks.{counted}
use Rattle.yaml_subset.proofs.preorder.Preorder.count.Goals as goal

pub returns : goal.returns
returns c documents are = c.count_documents.ensures ∙ ap (count_by (λ (node : Node). node.depth == 0)) c.deref.ensures.value ∙ counted c.args.self.now documents are
