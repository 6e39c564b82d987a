use Rattle.bind_api.specs.Given.{shown}
use Rattle.bind_api.specs.Asked.{parts_shown}
use Rattle.bind_api.proofs.Following.{stopped, went}
use Rattle.bind_api.proofs.asking.parts_behind.Goals as goal

pub returns-in-Ok : goal.returns-in-Ok
returns-in-Ok c value at = went shown parts_shown _ _ c.in-Ok.path c.parts_with.result (c.in-Ok.ensures _ (c.member.ensures.member value at)) (c.parts_with.ensures value at)

pub returns-in-Err : goal.returns-in-Err
returns-in-Err c value at = stopped shown parts_shown _ _ c.in-Err.what (c.in-Err.ensures _ (c.member.ensures.member value at))
