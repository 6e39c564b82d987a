-- What a call of an app is answered, and why.
use Rattle.std.proofs.Common.{◌≡◌, ◌≢◌, ◌⊎◌, ℕ, List, ◌++◌, Option, None, Some, Ok, inl, inr, sym, ap, ◌∙◌}
use Rattle.std.specs.Prelude.{codes}
use Rattle.side_base.specs.declared.message.Response.{Response}
use Rattle.side_world.specs.declared.link.LinkCall.{LinkCall}
use Rattle.app_peers.specs.declared.peer.Peer.{Peer}
use Rattle.app_peers.specs.Peers.{peer_of}
use Rattle.api_routes.specs.declared.route.Route.TheVariants.{Invoke}
use Rattle.policy_run.specs.declared.outcome.Outcome.{Outcome}
use Rattle.policy_run.specs.declared.outcome.Outcome.TheVariants.{Good, Bad, Refused, Exhausted, NoMemory}
use Rattle.policy_run.specs.Event.{Event}
use Rattle.link_call.specs.declared.miss.Miss.{Miss}
use Rattle.link_call.specs.declared.miss.Miss.TheVariants.{Failed, Expired, Replied}
use Rattle.link_call.specs.Came.{IsOr}
use Rattle.link_call.specs.Passed.{passed_on}
use Rattle.policy_run.specs.RefusalText.{refusal_text}
use Rattle.invoke_api.specs.declared.placing.Place.{Place}
use Rattle.invoke_api.specs.Places.{IsPlace, here, request_at, there}
use Rattle.invoke_api.specs.Invoking as invoking
use Rattle.invoke_api.specs.Invoking.{InvokeReplies, Invokes}
use Rattle.sidecar_objects.specs.Kind.{CellsAt, Kinds}
use Rattle.sidecar_turns.specs.Ticking.{asked_under}
use Rattle.sidecar_core.specs.Called.{AtApp, Tried, apps_in}
use Rattle.session_laws.specs.Served.{HasNoMemory, IsServed, Served}
use Rattle.session_laws.specs.Calls.{IsAnsweredWhereAllIsWell, IsCallAnswered, bound_to, expired, failed, lacks, no_port, refused, replied, unknown}
use Rattle.session_laws.specs.Calls.{exhausted as spent}
use Rattle.session_laws.specs.Asking.{HasReply}
use Rattle.session_laws.proofs.Routed.{by_route, exhausted_so}
use Rattle.session_laws.proofs.LastTries.{IsWhyOf, outcome_so}
use Rattle.sidecar_core.specs.Shown.{some_seat}

module _ {O : Type 0} (kinds : Kinds O) (cells : CellsAt O) (id rest : List ℕ) (served : Served O) (is : IsServed kinds cells (Invoke id rest) served) where
  -- a response, or no memory for it
  said_or : (response : Response) → (served.reply ≡ Ok response → IsCallAnswered id rest served) → IsOr response served.reply → IsCallAnswered id rest served
  said_or response so (inl said) = so said
  said_or response so (inr none) = lacks none

  module _ (place : Place) (stands : IsPlace (apps_in served.config) id rest place) (events : List (Event LinkCall)) (whole : served.events ≡ asked_under (bound_to served.config id) events) where
    abbrev Why : Outcome Response Miss → Type 0
    Why = IsWhyOf kinds cells served (bound_to served.config id) (request_at place served.request) events is.did whole

    passed : (response : Response) → HasReply (request_at place served.request) served.events response → IsOr (passed_on response) served.reply → IsCallAnswered id rest served
    passed response has said = said_or (passed_on response) (replied response (record { place = place; stands = stands; replied = has })) said

    answered_so : (outcome : Outcome Response Miss) → Why outcome → InvokeReplies outcome served.reply → IsCallAnswered id rest served
    answered_so (Good response) why says = passed response why says
    answered_so (Bad Failed) why says = said_or (invoking.not_invoked (codes "call failed")) (failed why) says
    answered_so (Bad Expired) why says = said_or (invoking.not_invoked (codes "call expired")) (expired why) says
    answered_so (Bad (Replied response)) why says = passed response why says
    answered_so (Refused refusal) why says = said_or (invoking.not_invoked (refusal_text refusal)) (refused refusal why) says
    answered_so (Exhausted count) why says = spent (exhausted_so kinds cells (Invoke id rest) served is count says)
    answered_so NoMemory why says = lacks says

  at_app : (events : List (Event LinkCall)) → served.events ≡ asked_under (bound_to served.config id) events → Invokes (Tried (bound_to served.config id)) (apps_in served.config) served.request id rest events served.reply → IsCallAnswered id rest served
  at_app events whole (invoking.lacks none) = lacks none.1
  at_app events whole (invoking.no_port own port gives) = said_or (invoking.not_invoked (codes "no app port")) (no_port own port (whole ∙ ap (asked_under (bound_to served.config id)) gives.0)) gives.1
  at_app events whole (invoking.unknown other gone gives) = said_or (invoking.not_invoked (codes "unknown app " ++ id)) (unknown other gone (whole ∙ ap (asked_under (bound_to served.config id)) gives.0)) gives.1
  at_app events whole (invoking.called place stands invoked) =
      answered_so place stands events whole invoked.outcome (outcome_so kinds cells served (bound_to served.config id) (request_at place served.request) events is.did whole invoked.outcome invoked.came) invoked.replies

  pub call_answered : IsCallAnswered id rest served
  call_answered = by (by_route kinds cells (Invoke id rest) served is)
    where
      by : AtApp served.config served.request id rest served.events served.reply ⊎ HasNoMemory served → IsCallAnswered id rest served
      by (inl app) = at_app app.attempts app.whole app.invokes
      by (inr none) = lacks none

  -- ---- where all is well

  not_there : (place : Place) → IsPlace (apps_in served.config) id rest place → id ≡ served.config.app → served.config.app_port ≡ None → ⊥
  not_there place (here port own is-port same) mine none = let bad : ◌≡◌ {A = Option ℕ} (Some port) None = sym is-port ∙ none in absurd (cc)
  not_there place (there peer other known same) mine none = other mine

  not_known : (place : Place) → IsPlace (apps_in served.config) id rest place → id ≢ served.config.app → peer_of served.config.peers id ≡ None → ⊥
  not_known place (here port own is-port same) other none = other own
  not_known place (there peer other known same) others none = let bad : ◌≡◌ {A = Option Peer} (Some peer) None = sym known ∙ none in absurd (cc)

  well_so : IsCallAnswered id rest served → IsAnsweredWhereAllIsWell id rest served
  well_so (no_port own port none said) app clear low = absurd (not_there app.0 app.1 own port)
  well_so (unknown other gone none said) app clear low = absurd (not_known app.0 app.1 other gone)
  well_so (replied response has said) app clear low = inl (record { response = response; replied = has; passed = said })
  well_so (failed fault said) app clear low = absurd (clear.no_fault fault)
  well_so (expired expiry said) app clear low = absurd (clear.no_expiry expiry)
  well_so (refused refusal away said) app clear low = absurd (clear.let_through refusal away)
  well_so (spent e) app clear low = absurd (clear.fresh e.count (some_seat served.config served.after.seats e.count served.request e.shown))
  well_so (lacks none) app clear low = inr none

  pub well_answered : IsAnsweredWhereAllIsWell id rest served
  well_answered = well_so call_answered
