use Rattle.json_text.proofs.Walks.{for_first}
use Rattle.json_text.proofs.doc.Doc.member_unless_null.Goals as goal

pub returns-clause-last : goal.returns-clause-last
returns-clause-last c values h = for_first values _ _ (c.member.ensures.last values h) (λ s children later last. (c.member.result, last, c.unless_null.ensures.there))
