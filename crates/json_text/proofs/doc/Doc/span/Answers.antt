use Rattle.std.proofs.Common.{ap}
use Rattle.json_text.proofs.Walks.{own_spot, for_first}
use Rattle.json_text.proofs.doc.Doc.span.Goals as goal

pub returns-clause-start : goal.returns-clause-start
returns-clause-start c values h = for_first values _ _ (own_spot c.args.self.now c.args.n.number c.entry.result values c.entry.ensures h) (λ s children later e. ap (λ x. x.span.start) e)

pub returns-clause-end : goal.returns-clause-end
returns-clause-end c values h = for_first values _ _ (own_spot c.args.self.now c.args.n.number c.entry.result values c.entry.ensures h) (λ s children later e. ap (λ x. x.span.end) e)
