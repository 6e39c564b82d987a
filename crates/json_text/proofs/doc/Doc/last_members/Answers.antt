use Rattle.json_text.proofs.Walks.{for_first}
use Rattle.json_text.proofs.LastNames.{last_members, if_ok}
use Rattle.json_text.proofs.doc.Doc.last_members.Goals as goal

pub returns-in-Ok : goal.returns-in-Ok
returns-in-Ok c values h =
    for_first values _ _ (c.in-Ok.ensures.last values h)
    (λ s children later last. if_ok c.in_order.result _ _ c.in_order.ensures (λ members is. last_members c.args.self.now children members c.in-Ok.map.entries is last c.in-Ok.ensures.ordered))
