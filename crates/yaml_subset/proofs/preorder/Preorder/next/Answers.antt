use Rattle.std.proofs.Common.{refl, arith}
use Rattle.yaml_subset.proofs.Walks.{next_some, next_none, next_past}
use Rattle.yaml_subset.proofs.preorder.Preorder.next.Goals as goal

pub returns-then-depth-own-clause-after : goal.returns-then-depth-own-clause-after
returns-then-depth-own-clause-after c = omega (arith, c.number_behind-number.ensures c.node.result.now)

pub returns-then-depth-own-clause-next : goal.returns-then-depth-own-clause-next
returns-then-depth-own-clause-next c row h = next_some c.args.self.now c.args.p.number c.number_behind-number.result c.in-Some.depth c.node.result.now (record { number = c.number_behind-number.result }) row refl c.node.ensures c.number_behind-number.ensures c.in-Some.ensures.some c.if-depth-own.true h

pub returns-else-depth-own-clause-next : goal.returns-else-depth-own-clause-next
returns-else-depth-own-clause-next c row h = next_none c.args.self.now c.args.p.number c.number_behind-number.result c.in-Some.depth c.node.result.now row c.node.ensures c.number_behind-number.ensures c.in-Some.ensures.some c.if-depth-own.false h

pub returns-in-None-clause-next : goal.returns-in-None-clause-next
returns-in-None-clause-next c row h = next_past c.args.self.now c.args.p.number c.number_behind-number.result c.node.result.now row c.node.ensures c.number_behind-number.ensures c.in-None.ensures.none h
