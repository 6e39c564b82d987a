use Rattle.std.proofs.Common.{ap, ◌∙◌}
use Rattle.yaml_subset.specs.Docs.{rows_from}
use Rattle.yaml_subset.specs.Trees.{tree_entries}
use Rattle.yaml_subset.proofs.Numbers.{first_here, unnamed_here}
use Rattle.yaml_subset.proofs.docs.Docs.root.Goals as goal

pub returns-clause-root : goal.returns-clause-root
returns-clause-root c =
    first_here c.self.inside.kept c.args.self.now c.self.view_is c.self.invariant (rows_from c.args.doc c.args.self.now) c.root.result c.root.ensures.part
    (c.root.ensures.root c.args.self.now (c.self.invariant.are ∙ ap (tree_entries 0) c.self.view_is))

pub returns-clause-unnamed : goal.returns-clause-unnamed
returns-clause-unnamed c = unnamed_here c.self.inside.kept c.args.self.now c.self.view_is c.self.invariant
