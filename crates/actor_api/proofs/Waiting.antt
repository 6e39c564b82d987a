-- The looks of a ticket, put together.
use Rattle.std.proofs.Common.{◌≡◌, ◌<◌, ◌+◌, ℕ, suc, [], ◌∷◌, ◌++◌, Ok, refl, sym, subst, arith}
use Rattle.turn_cell.specs.Growth.{Grew}
use Rattle.turn_cell.specs.Sitting.{Begun}
use Rattle.turn_cell.proofs.Growing.{grew_none}
use Rattle.actor_turns.specs.declared.turns.Turns.{Turns}
use Rattle.actor_turns.specs.declared.command.TurnsCmd.TheVariants.{Look}
use Rattle.actor_turns.specs.declared.command.TurnsReply.{TurnsReply}
use Rattle.actor_turns.specs.declared.command.TurnsReply.TheVariants as says
use Rattle.policy_run.specs.Event.{own, pause}
use Rattle.policy_run.specs.Effects.{Clocked}
use Rattle.link_call.specs.LinkAt.{LinkAt}
use Rattle.actor_api.specs.declared.awaiting.Awaited.{Awaited}
use Rattle.actor_api.specs.declared.awaiting.Awaited.TheVariants as awaited
use Rattle.actor_api.specs.declared.awaiting.Looked.TheVariants as looked
use Rattle.actor_api.specs.Stepping.{Answered, At, Does, StepsBy, TurnsGhosts, TurnsSeat, entered}
use Rattle.actor_api.specs.Calling.{Awaits, Looks, Waited}
use Rattle.actor_api.specs.Calling as calling
use Rattle.actor_api.proofs.Going.{Pauses, none_went, pause_went, step_went, went_on}

one_more : (n : ℕ) → suc n ≡ n + 1
one_more n = omega arith

module _ (object : TurnsGhosts) (cell : Begun Turns) where
  module _ (seat seat' : TurnsSeat) (clock : Clocked) (ticket : ℕ) (reply : TurnsReply) (did : StepsBy object cell seat seat' (Look ticket) (Ok reply)) (link : LinkAt) where
    pub behind : (ahead : ℕ) (clock' : Clocked) → reply ≡ says.Behind ahead → Pauses clock 10 clock' → Does object cell (record { seat = seat; link = link; clock = clock }) (record { seat = seat'; link = link; clock = clock' }) (Looks ticket (looked.Behind ahead))
    behind ahead clock' is pauses = (
      own (entered did.0) ∷ pause 10 ∷ [],
      (did.0, subst (λ r. Answered (Look ticket) r did.0) is did.1, refl),
      went_on object cell (record { seat = seat; link = link; clock = clock }) (record { seat = seat'; link = link; clock = clock }) (record { seat = seat'; link = link; clock = clock' }) (own (entered did.0) ∷ []) (pause 10 ∷ [])
          (step_went object cell seat seat' link clock did.0 did.2) (pause_went object cell seat' link clock clock' pauses),
    )

    pub yours : reply ≡ says.Yours → Does object cell (record { seat = seat; link = link; clock = clock }) (record { seat = seat'; link = link; clock = clock }) (Looks ticket (looked.Over awaited.Yours))
    yours is = (own (entered did.0) ∷ [], (did.0, subst (λ r. Answered (Look ticket) r did.0) is did.1, refl), step_went object cell seat seat' link clock did.0 did.2)

    pub lost : reply ≡ says.NotOpen → Does object cell (record { seat = seat; link = link; clock = clock }) (record { seat = seat'; link = link; clock = clock }) (Looks ticket (looked.Over awaited.Lost))
    lost is = (own (entered did.0) ∷ [], (did.0, subst (λ r. Answered (Look ticket) r did.0) is did.1, refl), step_went object cell seat seat' link clock did.0 did.2)

  pub unseen : (seat seat' : TurnsSeat) (clock : Clocked) (ticket count : ℕ) → Grew object cell.first seat [] seat' → (link : LinkAt) → Does object cell (record { seat = seat; link = link; clock = clock }) (record { seat = seat'; link = link; clock = clock }) (Looks ticket (looked.Over (awaited.Exhausted count)))
  unseen seat seat' clock ticket count grew link = ([], refl, none_went object cell seat seat' link clock grew)

  -- before the first look
  pub unwaited : (at : At) (ticket : ℕ) → Does object cell at at (Waited ticket 0 0)
  unwaited at ticket = ([], calling.none_yet, none_went object cell at.seat at.seat at.link at.clock (grew_none object cell.first at.seat))

  module _ (at between after : At) (ticket looks last : ℕ) (so-far : Does object cell at between (Waited ticket looks last)) where
    pub waited_on : (ahead : ℕ) → Does object cell between after (Looks ticket (looked.Behind ahead)) → Does object cell at after (Waited ticket (looks + 1) ahead)
    waited_on ahead look = (
      so-far.0 ++ look.0,
      subst (λ n. Waited ticket n ahead (so-far.0 ++ look.0)) (one_more looks) (subst (λ e. Waited ticket (suc looks) ahead (so-far.0 ++ e)) (sym look.1.2) (calling.one_more looks last ahead so-far.0 look.1.0 so-far.1 look.1.1)),
      went_on object cell at between after so-far.0 look.0 so-far.2 look.2,
    )

    pub over : (how : Awaited) → looks < 6000 → Does object cell between after (Looks ticket (looked.Over how)) → Does object cell at after (Awaits ticket how)
    over how few look = (so-far.0 ++ look.0, calling.over looks last so-far.0 look.0 few so-far.1 look.1 refl, went_on object cell at between after so-far.0 look.0 so-far.2 look.2)

    pub tired : looks ≡ 6000 → Does object cell at between (Awaits ticket (awaited.Behind last))
    tired all = (so-far.0, calling.tired last (subst (λ n. Waited ticket n last so-far.0) all so-far.1) refl, so-far.2)
