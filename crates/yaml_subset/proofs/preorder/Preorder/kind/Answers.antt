use Rattle.yaml_subset.proofs.Walks.{own_told, for_first}
use Rattle.yaml_subset.proofs.preorder.Preorder.kind.Goals as goal

pub returns : goal.returns
returns c row h = for_first row _ _ (own_told c.args.self.now c.args.p.number c.node.result.now row c.node.ensures h) (λ t inner later e. e.kind)
