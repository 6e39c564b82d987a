use Rattle.std.proofs.Common.{sym, ◌∙◌}
use Rattle.std.specs.Prelude.{Err}
use Rattle.bind_api.specs.Given.{shown}
use Rattle.bind_api.specs.Asked.{parts_shown}
use Rattle.bind_api.proofs.Following.{failed, held, stopped, went}
use Rattle.bind_api.proofs.Nodes.{at_node}
use Rattle.bind_api.proofs.asking.parts_at.Goals as goal

pub returns-then-not-is_map : goal.returns-then-not-is_map
returns-then-not-is_map c value at = failed parts_shown _ _ _ (sym (at_node c.args.doc.now c.args.n _ c.is_map.ensures value at) ∙ c.if-not-is_map.true)

pub returns-in-Ok : goal.returns-in-Ok
returns-in-Ok c value at =
    held parts_shown _ _ _ c.parts_behind.result (sym (at_node c.args.doc.now c.args.n _ c.is_map.ensures value at) ∙ c.if-not-is_map.false)
    (went shown parts_shown _ _ c.in-Ok.word c.parts_behind.result (c.in-Ok.ensures _ (c.member.ensures.member value at)) (c.parts_behind.ensures value at))

pub returns-in-Err : goal.returns-in-Err
returns-in-Err c value at =
    held parts_shown _ _ _ (Err c.in-Err.what) (sym (at_node c.args.doc.now c.args.n _ c.is_map.ensures value at) ∙ c.if-not-is_map.false)
    (stopped shown parts_shown _ _ c.in-Err.what (c.in-Err.ensures _ (c.member.ensures.member value at)))
