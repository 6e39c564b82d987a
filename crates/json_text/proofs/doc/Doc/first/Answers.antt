use Rattle.json_text.proofs.Walks.{first_some, first_none, first_past}
use Rattle.json_text.proofs.doc.Doc.first.Goals as goal

pub returns-then-depth-own-clause-first : goal.returns-then-depth-own-clause-first
returns-then-depth-own-clause-first c values h = first_some c.args.self.now c.args.n.number c.in-Some.depth c.entry-own.result values c.entry-own.ensures c.in-Some.ensures.some c.if-depth-own.true h

pub returns-else-depth-own-clause-first : goal.returns-else-depth-own-clause-first
returns-else-depth-own-clause-first c values h = first_none c.args.self.now c.args.n.number c.in-Some.depth c.entry-own.result values c.entry-own.ensures c.in-Some.ensures.some c.if-depth-own.false h

pub returns-in-None-clause-first : goal.returns-in-None-clause-first
returns-in-None-clause-first c values h = first_past c.args.self.now c.args.n.number values c.in-None.ensures.none h
