use Rattle.yaml_subset.proofs.Numbers.{inside_kept, told_here}
use Rattle.yaml_subset.proofs.docs.Docs.kind.Goals as goal

pub kind-requires : goal.kind-requires
kind-requires c = inside_kept c.self.inside.kept c.args.self.now c.self.view_is c.self.invariant c.args.p c.requires

pub returns : goal.returns
returns c = told_here c.self.inside.kept c.args.self.now c.self.view_is c.self.invariant c.args.p _ c.requires c.kind.ensures
