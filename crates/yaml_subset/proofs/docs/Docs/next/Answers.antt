use Rattle.yaml_subset.specs.Docs.{row_of, later_of}
use Rattle.yaml_subset.proofs.Numbers.{inside_kept, told_here, first_here}
use Rattle.yaml_subset.proofs.docs.Docs.next.Goals as goal

pub next-requires : goal.next-requires
next-requires c = inside_kept c.self.inside.kept c.args.self.now c.self.view_is c.self.invariant c.args.p c.requires

pub returns-clause-next : goal.returns-clause-next
returns-clause-next c =
    first_here c.self.inside.kept c.args.self.now c.self.view_is c.self.invariant (later_of (row_of c.args.self.now c.args.p)) c.next.result c.next.ensures.part
    (told_here c.self.inside.kept c.args.self.now c.self.view_is c.self.invariant c.args.p _ c.requires c.next.ensures.next)
