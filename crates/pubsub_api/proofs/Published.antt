-- A request to publish, from what was prepared to what is answered.
use Rattle.std.proofs.Common.{refl, ap, sym, subst, ◌∙◌, arith, ℕ, List, [], ◌∷◌, ◌++◌}
use Rattle.std.specs.Prelude.{Result, Ok, Err}
use Rattle.side_base.specs.declared.message.Response.{Response}
use Rattle.turn_cell.specs.declared.error.ApiErr.{ApiErr}
use Rattle.turn_cell.specs.Sitting.{Begun}
use Rattle.turn_cell.proofs.Growing.{grew_none}
use Rattle.side_world.proofs.Composed.{rises_nothing, tells_nothing}
use Rattle.ledger_core.specs.declared.ledger.Ledger.{Ledger}
use Rattle.ledger_core.specs.declared.command.LedgerCmd.{LedgerCmd}
use Rattle.ledger_core.specs.Message.{Step}
use Rattle.policy_run.specs.Event.{Event, own}
use Rattle.policy_run.specs.Effects.{AreNone, Clocked, Effects, Made}
use Rattle.policy_run.proofs.Composed.{effects_on, nothing_before, nothing_after, nothing_at_all}
use Rattle.pubsub_api.specs.declared.publication.Publication.{Publication}
use Rattle.pubsub_api.specs.declared.publication.PubErr.{PubErr}
use Rattle.pubsub_api.specs.declared.publication.PubErr.TheVariants as refusal
use Rattle.pubsub_api.specs.Publishing.{Prepares, Publishes, RefusalReplies}
use Rattle.pubsub_api.specs.Publishing as publishing
use Rattle.pubsub_api.specs.Stepping.{Accepts, Grows, IsAcceptCmd, LedgerGhosts, LedgerSeat, stepped, exhausted}

-- what is prepared gives an event
pub prepared_accepts : (p : Publication) (events : List (Event Step)) (cmd : LedgerCmd) → Prepares p events (Ok cmd) → IsAcceptCmd cmd
prepared_accepts p events cmd (publishing.denied denies none-there came) = (let bad : ⊥ = cc in absurd bad)
prepared_accepts p events cmd (publishing.stamped stamp allows is commands) = subst IsAcceptCmd (sym commands.3) tt

module _ (object : LedgerGhosts) (cell : Begun Ledger) (seat seat' : LedgerSeat) (drawn : List ℕ → Type 0) where
  one_step : (clock : Clocked) (step : Step) → Grows object cell seat seat' (step ∷ []) → Effects (own step ∷ []) (Grows object cell seat seat') AreNone clock clock AreNone
  one_step clock step grows = record { owned = grows; guards = refl; times = omega arith; pauses = rises_nothing clock.paused; ticks = tells_nothing clock.ticks; words = refl }

  with_step : (clock clock' : Clocked) (events : List (Event Step)) (step : Step) → Grows object cell seat seat' (step ∷ []) → Effects events AreNone AreNone clock clock' drawn → Effects (events ++ own step ∷ []) (Grows object cell seat seat') AreNone clock clock' drawn
  with_step clock clock' events step grows effects =
      effects_on events (own step ∷ []) AreNone (Grows object cell seat seat') (Grows object cell seat seat') AreNone AreNone AreNone clock clock' clock' drawn AreNone drawn
      (nothing_before (Grows object cell seat seat')) nothing_at_all (nothing_after drawn) effects (one_step clock' step grows)

  without_step : (clock clock' : Clocked) (events : List (Event Step)) → Grows object cell seat seat' [] → Effects events AreNone AreNone clock clock' drawn → Effects events (Grows object cell seat seat') AreNone clock clock' drawn
  without_step clock clock' events grows effects =
      record { owned = subst (Grows object cell seat seat') (sym effects.owned) grows; guards = effects.guards; times = effects.times; pauses = effects.pauses; ticks = effects.ticks; words = effects.words }

  module _ (p : Publication) (reply : Result Response ApiErr) (clock clock' : Clocked) where
    abbrev Done : Type 0
    Done = Made (λ events. Publishes p events reply) (Grows object cell seat seat') AreNone (record { before = clock; after = clock' }) drawn

    after_step : (cmd : LedgerCmd) (events : List (Event Step)) → Prepares p events (Ok cmd) → Effects events AreNone AreNone clock clock' drawn → Accepts object cell seat seat' cmd reply → Done
    after_step cmd events (publishing.denied denies none-there came) effects accepts = (let bad : ⊥ = cc in absurd bad)
    after_step cmd events (publishing.stamped stamp allows is commands) effects (stepped step does replies) = (
      events ++ own step ∷ [],
      publishing.accepted stamp step allows (record { event = commands.0; values = commands.1; message = commands.2; told = does.told ∙ commands.3 }) (ap (λ es. es ++ own step ∷ []) is) replies,
      with_step clock clock' events step does.grows effects,
    )
    after_step cmd events (publishing.stamped stamp allows is commands) effects (exhausted count out told) = (
      events,
      publishing.exhausted stamp commands.0 commands.1 count allows commands.2 is told,
      without_step clock clock' events out.grows effects,
    )

    pub published : (cmd : LedgerCmd) → Made (λ events. Prepares p events (Ok cmd)) AreNone AreNone (record { before = clock; after = clock' }) drawn → Accepts object cell seat seat' cmd reply → Done
    published cmd made accepts = after_step cmd made.0 made.1 made.2 accepts

-- where nothing is given to the ledger
module _ (object : LedgerGhosts) (cell : Begun Ledger) (seat : LedgerSeat) (drawn : List ℕ → Type 0) (p : Publication) (reply : Result Response ApiErr) where
  unpublishes : (why : PubErr) (events : List (Event Step)) → Prepares p events (Err why) → RefusalReplies p.topic.now why reply → Publishes p events reply
  unpublishes refusal.Forbidden events (publishing.denied denies none-there came) replies = publishing.denied denies (none-there, replies)
  unpublishes (refusal.Event why) events (publishing.denied denies none-there came) replies = (let bad : ⊥ = cc in absurd bad)
  unpublishes refusal.NoMemory events (publishing.denied denies none-there came) replies = (let bad : ⊥ = cc in absurd bad)
  unpublishes refusal.Forbidden events (publishing.stamped stamp allows is commands) replies = absurd commands
  unpublishes (refusal.Event why) events (publishing.stamped stamp allows is commands) replies = publishing.refused stamp why allows commands.1 commands.0 is replies
  unpublishes refusal.NoMemory events (publishing.stamped stamp allows is commands) replies = publishing.lacks stamp allows is replies

  pub unpublished : (clock clock' : Clocked) (why : PubErr) → Made (λ events. Prepares p events (Err why)) AreNone AreNone (record { before = clock; after = clock' }) drawn → RefusalReplies p.topic.now why reply
      → Made (λ events. Publishes p events reply) (Grows object cell seat seat) AreNone (record { before = clock; after = clock' }) drawn
  unpublished clock clock' why made replies = (made.0, unpublishes why made.0 made.1 replies, without_step object cell seat seat drawn clock clock' made.0 (grew_none object cell.first seat) made.2)
