-- A request that asks for a route is answered as one for it, or there was no memory.
use Rattle.std.proofs.Common.{◌≡◌, ◌⊎◌, ℕ, Result, Ok, Err, inl, inr, refl, sym, subst, ◌∙◌}
use Rattle.side_base.specs.declared.message.Response.{Response}
use Rattle.turn_cell.specs.declared.error.ApiErr.{ApiErr}
use Rattle.turn_cell.specs.declared.error.ApiErr.TheVariants as error
use Rattle.api_routes.specs.declared.route.Route.{Route}
use Rattle.api_routes.specs.declared.route.RouteErr.{RouteErr}
use Rattle.api_routes.specs.declared.route.RouteErr.TheVariants.{NotFound, MethodNotAllowed, BadEscape, NoMemory}
use Rattle.api_routes.specs.Route.{Answers}
use Rattle.api_routes.proofs.OneAnswer.{means-one, same-answer}
use Rattle.sidecar_objects.specs.Kind.{CellsAt, Kinds}
use Rattle.sidecar_core.specs.Exchange.{Answered, IsSaid}
use Rattle.session_laws.specs.Served.{HasExhausted, HasNoMemory, IsServed, Served}

-- the route of a request that means this one, unless there was no memory for it
module _ {O : Type 0} (kinds : Kinds O) (cells : CellsAt O) (asked : Route) (served : Served O) (is : IsServed kinds cells asked served) where
  not_this : (e : RouteErr) → ◌≡◌ {A = Result Route RouteErr} (Ok asked) (Err e) → ⊥
  not_this e same = absurd (cc)

  answer_of : (routed : Result Route RouteErr) → Answers served.request.method served.request.target routed → Answered served.config served.request routed served.events is.exchange.answer
      → Answered served.config served.request (Ok asked) served.events is.exchange.answer ⊎ (is.exchange.answer ≡ Err error.NoMemory)
  answer_of (Ok way) routes answered = inl (subst (λ w. Answered served.config served.request (Ok w) served.events is.exchange.answer) (means-one served.request.method served.request.target way asked routes is.means) answered)
  answer_of (Err NotFound) routes answered = absurd (not_this NotFound (same-answer served.request.method served.request.target (Ok asked) (Err NotFound) is.means routes (λ e. absurd (cc)) (λ e. absurd (cc))))
  answer_of (Err (MethodNotAllowed allow)) routes answered = absurd (not_this (MethodNotAllowed allow) (same-answer served.request.method served.request.target (Ok asked) (Err (MethodNotAllowed allow)) is.means routes (λ e. absurd (cc)) (λ e. absurd (cc))))
  answer_of (Err (BadEscape at)) routes answered = absurd (not_this (BadEscape at) (same-answer served.request.method served.request.target (Ok asked) (Err (BadEscape at)) is.means routes (λ e. absurd (cc)) (λ e. absurd (cc))))
  answer_of (Err NoMemory) routes answered = inr answered.1

  -- so it was answered, or there was no memory
  pub record IsReplied (answer : Result Response ApiErr) : Type 0 where
    pub answered : Answered served.config served.request (Ok asked) served.events answer
    pub same : served.reply ≡ answer

  said_so : (answer : Result Response ApiErr) → Answered served.config served.request (Ok asked) served.events answer → IsSaid answer served.reply → IsReplied served.reply ⊎ HasNoMemory served
  said_so answer answered (inl same) = inl (record { answered = subst (λ r. Answered served.config served.request (Ok asked) served.events r) (sym same) answered; same = refl })
  said_so answer answered (inr none) = inr none.2

  lacking : is.exchange.answer ≡ Err error.NoMemory → IsSaid is.exchange.answer served.reply → HasNoMemory served
  lacking none (inl same) = same ∙ none
  lacking none (inr response) = response.2

  pub by_route : Answered served.config served.request (Ok asked) served.events served.reply ⊎ HasNoMemory served
  by_route = by (answer_of is.exchange.replied.routed is.exchange.replied.routes is.exchange.replied.answered)
    where
      as_is : IsReplied served.reply ⊎ HasNoMemory served → Answered served.config served.request (Ok asked) served.events served.reply ⊎ HasNoMemory served
      as_is (inl replied) = inl replied.answered
      as_is (inr none) = inr none

      by : Answered served.config served.request (Ok asked) served.events is.exchange.answer ⊎ (is.exchange.answer ≡ Err error.NoMemory) → Answered served.config served.request (Ok asked) served.events served.reply ⊎ HasNoMemory served
      by (inl answered) = as_is (said_so is.exchange.answer answered is.exchange.said)
      by (inr none) = inr (lacking none is.exchange.said)

  pub exhausted_so : (count : ℕ) → served.reply ≡ Err (error.Exhausted count) → HasExhausted served
  exhausted_so count told = record { count = count; told = told; shown = is.shows count told }
