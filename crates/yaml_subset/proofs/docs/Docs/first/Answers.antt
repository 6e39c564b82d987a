use Rattle.yaml_subset.specs.Docs.{row_of, inner_of}
use Rattle.yaml_subset.proofs.Numbers.{inside_kept, told_here, first_here, lawful_here}
use Rattle.yaml_subset.proofs.docs.Docs.first.Goals as goal

pub first-requires : goal.first-requires
first-requires c = inside_kept c.self.inside.kept c.args.self.now c.self.view_is c.self.invariant c.args.p c.requires

pub returns-clause-first : goal.returns-clause-first
returns-clause-first c =
    first_here c.self.inside.kept c.args.self.now c.self.view_is c.self.invariant (inner_of (row_of c.args.self.now c.args.p)) c.first.result c.first.ensures.part
    (told_here c.self.inside.kept c.args.self.now c.self.view_is c.self.invariant c.args.p _ c.requires c.first.ensures.first)

pub returns-clause-holds : goal.returns-clause-holds
returns-clause-holds c = (lawful_here c.self.inside.kept c.args.self.now c.self.view_is c.self.invariant c.args.p).holds
