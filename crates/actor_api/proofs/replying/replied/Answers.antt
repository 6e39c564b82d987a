use Rattle.std.proofs.Common.{sym, subst}
use Rattle.link_call.specs.Passed.{passed_on}
use Rattle.actor_api.specs.Calling.{Replies}
use Rattle.actor_api.proofs.replying.replied.Goals as goal

pub returns-in-Ok : goal.returns-in-Ok
returns-in-Ok c = subst (λ a. Replies a c.given.result) (sym c.in-Ok.is) (c.given.ensures (passed_on c.in-Ok.response) c.pass_on.ensures)
