-- One step of a ledger's cell, at a moment that was read right before.
use Rattle.std.proofs.Common.{◌≡◌, refl, ap, subst, arith, ℕ, List, [], ◌∷◌, ◌++◌}
use Rattle.std.specs.Prelude.{Result, Ok, Err, IfOk, IfErr}
use Rattle.turn_cell.specs.declared.error.Exhausted.{Exhausted}
use Rattle.turn_cell.specs.Sitting.{Begun, Extends, Exhausts, entry_by}
use Rattle.turn_cell.specs.History.{IsLegal}
use Rattle.turn_cell.proofs.Growing.{called, exhausted as ran_out}
use Rattle.ledger_core.specs.declared.ledger.Ledger.{Ledger}
use Rattle.ledger_core.specs.declared.plan.Plan.{Plan}
use Rattle.ledger_core.specs.declared.command.LedgerCmd.{LedgerCmd}
use Rattle.ledger_core.specs.declared.command.LedgerCmd.TheVariants.{Take}
use Rattle.ledger_core.specs.declared.reply.LedgerReply.{LedgerReply}
use Rattle.ledger_core.specs.declared.reply.LedgerReply.TheVariants as says
use Rattle.ledger_core.specs.Fits.{Fits}
use Rattle.ledger_core.specs.Laws.{AreFitting, ArePlanned}
use Rattle.ledger_core.specs.Ledger.{plans_of}
use Rattle.ledger_core.specs.Message.{Step}
use Rattle.policy_run.specs.Event.{Event, own, moment}
use Rattle.policy_run.specs.Effects.{AreNone, Clocked, Effects, ReadsNow}
use Rattle.delivery_turn.specs.Settling.{Own, entered, Answered, Stuck}
use Rattle.delivery_turn.specs.Stepping.{AsksLedger, Enters, IsPlanned, IsTakeReply, LedgerGhosts, LedgerSeat, RunsOut, Steps, StepsBy}

planned_by : (plans : List Plan) (history before after : List Step) (entry : Step) (reply : LedgerReply) → ArePlanned plans history → history ≡ before ++ entry ∷ after → entry.reply ≡ reply → IsPlanned plans reply
planned_by plans history before after entry (says.Taken number sub claim event path attempt) are is e = are before after entry number sub claim event path attempt is e
planned_by plans history before after entry (says.Accepted number) are is e = tt
planned_by plans history before after entry (says.Full rows bytes) are is e = tt
planned_by plans history before after entry (says.Idle next) are is e = tt
planned_by plans history before after entry says.NotTaken are is e = tt
planned_by plans history before after entry says.Done are is e = tt
planned_by plans history before after entry (says.Dropped why) are is e = tt
planned_by plans history before after entry (says.Again at) are is e = tt
planned_by plans history before after entry (says.Dead number) are is e = tt
planned_by plans history before after entry (says.Counts owed done dropped dead) are is e = tt
planned_by plans history before after entry says.NoMemory are is e = tt

module _ (object : LedgerGhosts) (cell : Begun Ledger) (seat seat' : LedgerSeat) where
  pub steps_by : (cmd : LedgerCmd) → ((history : List Step) → IsLegal object cell.first history → AreFitting history) → ((history : List Step) → IsLegal object cell.first history → ArePlanned (plans_of cell.first) history) → (result : Result LedgerReply Exhausted)
      → IfOk result (λ reply. Extends object cell.first seat cmd reply seat') → IfErr result (λ e. Exhausts object cell.first seat e.count seat') → StepsBy object cell seat seat' cmd result
  steps_by cmd fits plans (Ok reply) did out =
      let entry = entry_by seat cmd reply did.mark in
      let last = ap (λ (z : LedgerSeat). z.seen) did.whole in (
        entry,
        refl,
        record {
          told = refl;
          fits = fits seat'.seen did.sound.legal (seat.seen ++ did.others) [] entry last;
          planned = planned_by (plans_of cell.first) seat'.seen (seat.seen ++ did.others) [] entry reply (plans seat'.seen did.sound.legal) last refl;
          grows = called object cell.first seat cmd reply seat' did;
        },
      )
  steps_by cmd fits plans (Err e) did out = record { shows = ap (λ (z : LedgerSeat). z.count) out.whole; grows = ran_out object cell.first seat e.count seat' out }

  module _ (clock clock' : Clocked) (now : ℕ) (reads : ReadsNow clock now clock') where
    stepped_at : (step : Step) (cmd : LedgerCmd) → Steps object cell seat seat' cmd step → Effects (moment now ∷ own (entered step) ∷ []) (Enters object cell seat seat') AreNone clock clock' AreNone
    stepped_at step cmd did = record {
      owned = record { steps = did.grows; calls = refl };
      guards = refl;
      times = (omega (arith, reads.later, reads.last), omega (arith, reads.last));
      pauses = (omega (arith, reads.paused), omega (arith, reads.paused), λ below. omega (arith, reads.paused));
      ticks = reads.ticks;
      words = refl;
    }

    stuck_at : (count : ℕ) → RunsOut object cell seat seat' count → Effects (moment now ∷ []) (Enters object cell seat seat') AreNone clock clock' AreNone
    stuck_at count out = record {
      owned = record { steps = out.grows; calls = refl };
      guards = refl;
      times = (omega (arith, reads.later, reads.last), omega (arith, reads.last));
      pauses = (omega (arith, reads.paused), omega (arith, reads.paused), λ below. omega (arith, reads.paused));
      ticks = reads.ticks;
      words = refl;
    }

    -- the ledger replied to the command of the moment, and what this means holds of the events
    pub asked_so : (cmd : ℕ → LedgerCmd) (reply : LedgerReply) (comes : List (Event Own) → Type 0) → StepsBy object cell seat seat' (cmd now) (Ok reply) → ((events : List (Event Own)) → Answered cmd reply events → comes events) → AsksLedger object cell seat seat' clock clock' comes
    asked_so cmd reply comes did means = (
      moment now ∷ own (entered did.0) ∷ [],
      means (moment now ∷ own (entered did.0) ∷ []) (record { now = now; step = did.0; told = did.2.told; answer = did.1; fits = subst (Fits (cmd now)) did.1 did.2.fits; whole = refl }),
      stepped_at did.0 (cmd now) did.2,
    )

    -- the same of a command that is the one of the moment
    pub asked_from : (given : LedgerCmd) (cmd : ℕ → LedgerCmd) (reply : LedgerReply) (comes : List (Event Own) → Type 0) → given ≡ cmd now → StepsBy object cell seat seat' given (Ok reply) → ((events : List (Event Own)) → Answered cmd reply events → comes events) → AsksLedger object cell seat seat' clock clock' comes
    asked_from given cmd reply comes is did means = asked_so cmd reply comes (subst (λ c. StepsBy object cell seat seat' c (Ok reply)) is did) means

    -- its cell was exhausted
    pub stuck_so : (cmd : LedgerCmd) (e : Exhausted) (comes : List (Event Own) → Type 0) → StepsBy object cell seat seat' cmd (Err e) → ((events : List (Event Own)) → Stuck events → comes events) → AsksLedger object cell seat seat' clock clock' comes
    stuck_so cmd e comes out means = (moment now ∷ [], means (moment now ∷ []) (now, refl), stuck_at e.count out)

pub take_reply : (now : ℕ) (reply : LedgerReply) → Fits (Take now) reply → IsTakeReply reply
take_reply now (says.Taken number sub claim event path attempt) fits = tt
take_reply now (says.Idle next) fits = tt
take_reply now says.NoMemory fits = tt
take_reply now (says.Accepted number) fits = absurd fits
take_reply now (says.Full rows bytes) fits = absurd fits
take_reply now says.NotTaken fits = absurd fits
take_reply now says.Done fits = absurd fits
take_reply now (says.Dropped why) fits = absurd fits
take_reply now (says.Again at) fits = absurd fits
take_reply now (says.Dead number) fits = absurd fits
take_reply now (says.Counts owed done dropped dead) fits = absurd fits
