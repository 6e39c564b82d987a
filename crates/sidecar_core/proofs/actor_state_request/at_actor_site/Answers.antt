use Rattle.std.proofs.Common.{subst}
use Rattle.state_core.specs.declared.command.Cmd.{Cmd}
use Rattle.state_api.specs.Given.{Tells}
use Rattle.state_api.specs.Asked.{AsksActor}
use Rattle.sidecar_core.specs.Exchange.{Called}
use Rattle.sidecar_core.specs.Exchange as exchange
use Rattle.sidecar_objects.specs.Composed.{does_nothing, does_as}
use Rattle.sidecar_core.specs.Ran.{IsShown}
use Rattle.sidecar_core.proofs.Answering.{fault_at, fault_shows_nothing}
use Rattle.sidecar_core.proofs.actor_state_request.at_actor_site.Goals as goal

pub returns-in-Ok-clause-does : goal.returns-in-Ok-clause-does
returns-in-Ok-clause-does g c = λ link. does_as _ _ _ _ _ _
    (λ events by. exchange.called c.in-Ok.cmd c.in-Ok.ensures.asks (subst (λ b. Called c.args.place b c.in-Ok.cmd events c.call.result) c.bound.ensures.value by))
    (c.call.ensures.does link)

pub returns-in-Ok-clause-shows : goal.returns-in-Ok-clause-shows
returns-in-Ok-clause-shows g c = λ count is. subst (λ b. IsShown c.args.place b c.call.new.pass.stores.items c.call.new.pass.breakers.items count) c.bound.ensures.value (c.call.ensures.shows count is)

pub returns-in-Err-clause-does : goal.returns-in-Err-clause-does
returns-in-Err-clause-does g c = λ link. does_nothing _ _ _ _
    (fault_at (AsksActor c.args.shared.now.config.app c.args.request.now c.args.route.now) c.args.place c.args.site.now.bound c.in-Err.error c.given_fault.result
    (subst (λ r. Tells {A = Cmd} r (AsksActor c.args.shared.now.config.app c.args.request.now c.args.route.now)) c.in-Err.is c.actor_command.ensures.asks)
    c.given_fault.ensures)

pub returns-in-Err-clause-shows : goal.returns-in-Err-clause-shows
returns-in-Err-clause-shows g c = λ count is. fault_shows_nothing c.in-Err.error c.given_fault.result count c.given_fault.ensures is
