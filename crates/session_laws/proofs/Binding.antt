-- What a request to an output binding is answered, and why.
use Rattle.std.proofs.Common.{◌≡◌, ◌⊎◌, ℕ, true, List, Ok, Option, Some, inl, inr, ap, sym, subst, unwrap_or, ◌∙◌, arith}
use Rattle.std.specs.Prelude.{[], codes, decimal, ◌++◌, ◌&&◌, nat_le, if◌then◌else◌}
use Rattle.std.proofs.lemmas.Bool.Decides.{nat_tests}
use Rattle.side_base.specs.declared.message.Response.{Response}
use Rattle.side_world.specs.declared.link.LinkCall.{LinkCall}
use Rattle.api_routes.specs.declared.route.Route.TheVariants.{Binding}
use mathlib.Core.Option.{some-injective}
use lib.ListN.{get_elem?}
use Rattle.resource_spec.specs.Component.{Loaded}
use Rattle.resource_spec.specs.declared.component.ComponentKind.{ComponentKind}
use Rattle.resource_spec.specs.declared.component.ComponentKind.TheVariants as kind
use Rattle.resource_spec.specs.Url.{Address}
use Rattle.policy_run.specs.declared.outcome.Outcome.{Outcome}
use Rattle.policy_run.specs.declared.outcome.Outcome.TheVariants.{Good, Bad, Refused, Exhausted, NoMemory}
use Rattle.policy_run.specs.Event.{Event}
use Rattle.policy_run.specs.RefusalText.{refusal_text}
use Rattle.link_call.specs.declared.miss.Miss.{Miss}
use Rattle.link_call.specs.declared.miss.Miss.TheVariants.{Failed, Expired, Replied}
use Rattle.link_call.specs.Came.{IsOr}
use Rattle.bind_api.specs.declared.asking.Ask.{Ask}
use Rattle.bind_api.specs.Asked.{BodyAsks, ask_in}
use Rattle.bind_api.specs.Requested.{request_to}
use Rattle.bind_api.specs.Malformed.{malformed}
use Rattle.bind_api.specs.Binding as binding
use Rattle.bind_api.specs.Binding.{BindingReplies, Binds, IsAddress, not_bound, taken_with, told}
use Rattle.sidecar_objects.specs.Kind.{CellsAt, Kinds}
use Rattle.sidecar_turns.specs.Ticking.{asked_under}
use Rattle.sidecar_core.specs.declared.config.Config.{Config}
use Rattle.sidecar_core.specs.Called.{AtBinding, Tried}
use Rattle.sidecar_core.specs.Called as at
use Rattle.sidecar_core.specs.Named.{IsNamed}
use Rattle.sidecar_core.specs.Responses.{no_binding}
use Rattle.sidecar_core.specs.Shown.{some_seat}
use Rattle.session_laws.specs.Served.{HasNoMemory, IsServed, Served}
use Rattle.session_laws.specs.Asking.{HasReply}
use Rattle.session_laws.specs.Bindings.{CronIsUnknown, IsAnsweredWhereAllIsWell, IsBinding, IsBindingAnswered, IsSuccess, bound_to, expired, failed, lacks, refused, replied, unknown, wrong}
use Rattle.session_laws.specs.Bindings.{exhausted as spent}
use Rattle.session_laws.proofs.Routed.{by_route, exhausted_so}
use Rattle.session_laws.proofs.LastTries.{IsWhyOf, outcome_so}

-- one component has the name
one_named : (config : Config) (name : List ℕ) (place other : ℕ) (one two : Loaded) → IsNamed config name place one → IsNamed config name other two → one ≡ two
one_named config name place other one two first second =
    let same : place ≡ other = ap (λ (o : Option ℕ). unwrap_or o 0) (sym first.first ∙ second.first) in
    some-injective one two (sym first.there ∙ ap (λ k. get_elem? config.components k) same ∙ second.there)

abbrev IsHttp : ComponentKind → Type 0
IsHttp kind.BindingHttp = Unit {0}
IsHttp kind.StateMemory = ⊥
IsHttp kind.StateJournal = ⊥
IsHttp kind.PubsubMemory = ⊥
IsHttp kind.BindingCron = ⊥

module _ {O : Type 0} (kinds : Kinds O) (cells : CellsAt O) (name : List ℕ) (served : Served O) (is : IsServed kinds cells (Binding name) served) where
  said_or : (response : Response) → (served.reply ≡ Ok response → IsBindingAnswered name served) → IsOr response served.reply → IsBindingAnswered name served
  said_or response so (inl said) = so said
  said_or response so (inr none) = lacks none

  module _ (component : Loaded) (there : IsBinding name served component) (events : List (Event LinkCall)) (whole : served.events ≡ asked_under (bound_to served.config name) events) where
    module _ (address : Address) (stands : IsAddress component address) (ask : Ask) (asks : BodyAsks ask_in served.request.body (Ok ask)) where
      abbrev Why : Outcome Response Miss → Type 0
      Why = IsWhyOf kinds cells served (bound_to served.config name) (request_to address ask) events is.did whole

      taken : (response : Response) → HasReply (request_to address ask) served.events response → IsOr (told response) served.reply → IsBindingAnswered name served
      taken response has said = said_or (told response) (replied response (record { component = component; is = there; address = address; stands = stands; ask = ask; asks = asks; replied = has })) said

      answered_so : (outcome : Outcome Response Miss) → Why outcome → BindingReplies outcome served.reply → IsBindingAnswered name served
      answered_so (Good response) why says = taken response why says
      answered_so (Bad Failed) why says = said_or (not_bound (codes "call failed")) (failed why) says
      answered_so (Bad Expired) why says = said_or (not_bound (codes "call expired")) (expired why) says
      answered_so (Bad (Replied response)) why says = taken response why says
      answered_so (Refused refusal) why says = said_or (not_bound (refusal_text refusal)) (refused refusal why) says
      answered_so (Exhausted count) why says = spent (exhausted_so kinds cells (Binding name) served is count says)
      answered_so NoMemory why says = lacks says

    at_service : Binds (Tried (bound_to served.config name)) component served.request events served.reply → IsBindingAnswered name served
    at_service (binding.lacks none) = lacks none.1
    at_service (binding.refused what asks gives) = said_or (malformed what) (wrong what asks (whole ∙ ap (asked_under (bound_to served.config name)) gives.0)) gives.1
    at_service (binding.called address ask stands asks called) =
        answered_so address stands ask asks called.outcome (outcome_so kinds cells served (bound_to served.config name) (request_to address ask) events is.did whole called.outcome called.came) called.replies

  pub binding_answered : IsBindingAnswered name served
  binding_answered = by (by_route kinds cells (Binding name) served is)
    where
      by : AtBinding served.config served.request name served.events served.reply ⊎ HasNoMemory served → IsBindingAnswered name served
      by (inl (at.unknown_name none gives)) = said_or (no_binding name) (unknown none gives.0) gives.1
      by (inl (at.known place component named kind service)) = at_service component (record { place = place; named = named; kind = kind }) service.attempts service.whole service.binds
      by (inr none) = lacks none

  -- ---- cron components

  pub cron_unknown : CronIsUnknown name served
  cron_unknown cron = by (by_route kinds cells (Binding name) served is)
    where
      told_or : served.events ≡ [] → IsOr (no_binding name) served.reply → ((served.events ≡ []) × (served.reply ≡ Ok (no_binding name))) ⊎ HasNoMemory served
      told_or nothing (inl said) = inl (nothing, said)
      told_or nothing (inr none) = inr none

      by : AtBinding served.config served.request name served.events served.reply ⊎ HasNoMemory served → ((served.events ≡ []) × (served.reply ≡ Ok (no_binding name))) ⊎ HasNoMemory served
      by (inl (at.unknown_name none gives)) = told_or gives.0 gives.1
      by (inl (at.known place component named http service)) = absurd (subst IsHttp (sym http ∙ ap (λ (c : Loaded). c.kind) (one_named served.config name place cron.place component cron.component named cron.named) ∙ cron.kind) tt)
      by (inr none) = inr none

  -- ---- where all is well

  told_so : (response : Response) → IsSuccess name served response → told response ≡ taken_with response response.body
  told_so response success =
      let fits : (nat_le 200 response.status && nat_le response.status 299) ≡ true = grind (arith, nat_tests, success.low, success.high) in
      ap (λ b. if b then taken_with response response.body else not_bound (codes "status " ++ decimal response.status)) fits

  well_so : IsBindingAnswered name served → IsAnsweredWhereAllIsWell name served
  well_so (unknown none nothing said) asked clear good = absurd (none asked.there.place asked.component asked.there.named asked.there.kind)
  well_so (wrong what asks nothing said) asked clear good = absurd (asked.well_formed what asks)
  well_so (replied response has said) asked clear good = inl (record { response = response; replied = has; taken = said ∙ ap (λ (r : Response). Ok r) (told_so response (good response has)) })
  well_so (failed fault said) asked clear good = absurd (clear.no_fault fault)
  well_so (expired expiry said) asked clear good = absurd (clear.no_expiry expiry)
  well_so (refused refusal away said) asked clear good = absurd (clear.let_through refusal away)
  well_so (spent e) asked clear good = absurd (clear.fresh e.count (some_seat served.config served.after.seats e.count served.request e.shown))
  well_so (lacks none) asked clear good = inr none

  pub well_answered : IsAnsweredWhereAllIsWell name served
  well_answered = well_so binding_answered
