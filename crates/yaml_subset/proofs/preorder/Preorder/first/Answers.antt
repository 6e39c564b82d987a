use Rattle.std.proofs.Common.{◌+◌, refl}
use Rattle.yaml_subset.proofs.Walks.{first_some, first_none, first_past}
use Rattle.yaml_subset.proofs.preorder.Preorder.first.Goals as goal

pub returns-then-depth-own-clause-first : goal.returns-then-depth-own-clause-first
returns-then-depth-own-clause-first c row h = first_some c.args.self.now c.args.p.number c.in-Some.depth c.node.result.now (record { number = c.args.p.number + 1 }) row refl c.node.ensures c.in-Some.ensures.some c.if-depth-own.true h

pub returns-else-depth-own-clause-first : goal.returns-else-depth-own-clause-first
returns-else-depth-own-clause-first c row h = first_none c.args.self.now c.args.p.number c.in-Some.depth c.node.result.now row c.node.ensures c.in-Some.ensures.some c.if-depth-own.false h

pub returns-in-None-clause-first : goal.returns-in-None-clause-first
returns-in-None-clause-first c row h = first_past c.args.self.now c.args.p.number row c.in-None.ensures.none h
