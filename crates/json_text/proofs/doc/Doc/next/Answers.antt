use Rattle.std.proofs.Common.{arith}
use Rattle.json_text.proofs.Walks.{next_some, next_none, next_past}
use Rattle.json_text.proofs.doc.Doc.next.Goals as goal

pub returns-then-depth-own-clause-next : goal.returns-then-depth-own-clause-next
returns-then-depth-own-clause-next c values h =
    next_some c.args.self.now c.args.n.number c.saturating_add-number.result c.in-Some.depth c.entry-own.result values c.entry-own.ensures (λ fits some. omega (arith, c.saturating_add-number.ensures, c.max.ensures, fits, some)) c.in-Some.ensures.some c.if-depth-own.true h

pub returns-else-depth-own-clause-next : goal.returns-else-depth-own-clause-next
returns-else-depth-own-clause-next c values h =
    next_none c.args.self.now c.args.n.number c.saturating_add-number.result c.in-Some.depth c.entry-own.result values c.entry-own.ensures (λ fits some. omega (arith, c.saturating_add-number.ensures, c.max.ensures, fits, some)) c.in-Some.ensures.some c.if-depth-own.false h

pub returns-in-None-clause-next : goal.returns-in-None-clause-next
returns-in-None-clause-next c values h =
    next_past c.args.self.now c.args.n.number c.saturating_add-number.result c.entry-own.result values c.entry-own.ensures (λ fits some. omega (arith, c.saturating_add-number.ensures, c.max.ensures, fits, some)) c.in-None.ensures.none h
