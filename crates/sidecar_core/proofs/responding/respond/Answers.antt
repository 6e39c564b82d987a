use Rattle.std.proofs.Common.{Ok, Err, subst}
use Rattle.api_routes.specs.Route.{Answers}
use Rattle.sidecar_objects.specs.Composed.{does_nothing, pass_stays, does_as}
use Rattle.sidecar_core.proofs.Answering.{refusal_shows_nothing}
use Rattle.sidecar_core.proofs.Statuses.{fine_refusal}
use Rattle.sidecar_core.proofs.Targets.{target_long}
use Rattle.sidecar_core.proofs.responding.respond.Goals as goal

pub answer-requires-clause-target : goal.answer-requires-clause-target
answer-requires-clause-target g c = target_long c.args.request.now.method c.args.request.now.target c.route.result c.in-Ok.route c.in-Ok.is c.route.ensures

pub returns-in-Ok-clause-exchange : goal.returns-in-Ok-clause-exchange
returns-in-Ok-clause-exchange g c = does_as _ _ _ _ _ _
    (λ events at. record { routed = Ok c.in-Ok.route; routes = subst (Answers c.args.request.now.method c.args.request.now.target) c.in-Ok.is c.route.ensures; answered = at }) c.answer.ensures.does

pub returns-in-Ok-clause-pass : goal.returns-in-Ok-clause-pass
returns-in-Ok-clause-pass g c = let d = c.answer.ensures.does in pass_stays _ _ _ d.events _ d.went c.requires.pass

pub returns-in-Ok-clause-status : goal.returns-in-Ok-clause-status
returns-in-Ok-clause-status g c = c.answer.ensures.status

pub returns-in-Ok-clause-shows : goal.returns-in-Ok-clause-shows
returns-in-Ok-clause-shows g c = λ count is. record { asked = c.in-Ok.route; means = subst (Answers c.args.request.now.method c.args.request.now.target) c.in-Ok.is c.route.ensures; shown = c.answer.ensures.shows count is }

pub returns-in-Err-clause-exchange : goal.returns-in-Err-clause-exchange
returns-in-Err-clause-exchange g c = does_nothing _ _ _ _
    (record { routed = Err c.in-Err.error; routes = subst (Answers c.args.request.now.method c.args.request.now.target) c.in-Err.is c.route.ensures; answered = c.given_refusal.ensures c.args.shared.now.config c.args.request.now })

pub returns-in-Err-clause-shows : goal.returns-in-Err-clause-shows
returns-in-Err-clause-shows g c = λ count is. refusal_shows_nothing c.args.shared.now.config c.args.request.now c.in-Err.error c.given_refusal.result count (c.given_refusal.ensures c.args.shared.now.config c.args.request.now) is

pub returns-in-Err-clause-status : goal.returns-in-Err-clause-status
returns-in-Err-clause-status g c = fine_refusal c.args.shared.now.config c.args.request.now c.in-Err.error _ c.given_refusal.result (c.given_refusal.ensures c.args.shared.now.config c.args.request.now)
