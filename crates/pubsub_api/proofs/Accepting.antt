-- One step of a ledger's cell, and what is answered by it.
use Rattle.std.proofs.Common.{◌≡◌, ◌≤◌, refl, ap, sym, subst, ◌∙◌, arith, ℕ, List, [], ◌++◌, inl, inr}
use Rattle.std.specs.Prelude.{Result, Ok, Err, IfOk, IfErr}
use Rattle.side_base.specs.declared.message.Response.{Response}
use Rattle.turn_cell.specs.declared.error.ApiErr.{ApiErr}
use Rattle.turn_cell.specs.declared.error.ApiErr.TheVariants as error
use Rattle.turn_cell.specs.declared.error.Exhausted.{Exhausted}
use Rattle.turn_cell.specs.Sitting.{Begun, Extends, Exhausts as RunsOut, entry_by}
use Rattle.turn_cell.specs.History.{IsLegal}
use Rattle.turn_cell.proofs.Growing.{called, exhausted as ran_out}
use Rattle.ledger_core.specs.declared.ledger.Ledger.{Ledger}
use Rattle.ledger_core.specs.declared.command.LedgerCmd.{LedgerCmd}
use Rattle.ledger_core.specs.declared.command.LedgerCmd.TheVariants as cmds
use Rattle.ledger_core.specs.declared.reply.LedgerReply.{LedgerReply}
use Rattle.ledger_core.specs.declared.reply.LedgerReply.TheVariants as says
use Rattle.ledger_core.specs.Fits.{Fits}
use Rattle.ledger_core.specs.Laws.{AreFitting}
use Rattle.ledger_core.specs.Message.{Step}
use Rattle.link_call.specs.Came.{IsOr}
use Rattle.pubsub_api.specs.declared.publication.PubErr.{PubErr}
use Rattle.pubsub_api.specs.declared.publication.PubErr.TheVariants as refusal
use Rattle.pubsub_api.specs.Publishing.{AcceptReplies, IsAcceptReply, RefusalReplies}
use Rattle.pubsub_api.specs.Stepping.{Accepts, IsAcceptCmd, LedgerGhosts, LedgerSeat, StepsBy, stepped, exhausted}

module _ (object : LedgerGhosts) (cell : Begun Ledger) (seat seat' : LedgerSeat) (cmd : LedgerCmd) where
  -- a call of the cell
  pub steps_by : ((history : List Step) → IsLegal object cell.first history → AreFitting history) → (result : Result LedgerReply Exhausted)
      → IfOk result (λ reply. Extends object cell.first seat cmd reply seat') → IfErr result (λ e. RunsOut object cell.first seat e.count seat') → StepsBy object cell seat seat' cmd result
  steps_by fits (Ok reply) did out = (
    entry_by seat cmd reply did.mark,
    refl,
    record {
      told = refl;
      fits = fits seat'.seen did.sound.legal (seat.seen ++ did.others) [] (entry_by seat cmd reply did.mark) (ap (λ (z : LedgerSeat). z.seen) did.whole);
      grows = called object cell.first seat cmd reply seat' did;
    },
  )
  steps_by fits (Err e) did out = record { shows = ap (λ (z : LedgerSeat). z.count) out.whole; grows = ran_out object cell.first seat e.count seat' out }

  -- what is answered to a reply
  pub accepted_by : (reply : LedgerReply) (response : Result Response ApiErr) → StepsBy object cell seat seat' cmd (Ok reply) → AcceptReplies reply response → Accepts object cell seat seat' cmd response
  accepted_by reply response did replies = stepped did.0 did.2 (subst (λ r. AcceptReplies r response) (sym did.1) replies)

  pub unaccepted_by : (e : Exhausted) → StepsBy object cell seat seat' cmd (Err e) → Accepts object cell seat seat' cmd (Err (error.Exhausted e.count))
  unaccepted_by e did = exhausted e.count did refl

-- an event that is given has one of three replies
pub accept_reply : (cmd : LedgerCmd) (reply : LedgerReply) → IsAcceptCmd cmd → Fits cmd reply → IsAcceptReply reply
accept_reply (cmds.Accept event aims now) (says.Accepted number) is fits = tt
accept_reply (cmds.Accept event aims now) (says.Full rows bytes) is fits = tt
accept_reply (cmds.Accept event aims now) says.NoMemory is fits = tt
accept_reply (cmds.Accept event aims now) (says.Taken number sub claim given path attempt) is fits = absurd fits
accept_reply (cmds.Accept event aims now) (says.Idle next) is fits = absurd fits
accept_reply (cmds.Accept event aims now) says.NotTaken is fits = absurd fits
accept_reply (cmds.Accept event aims now) says.Done is fits = absurd fits
accept_reply (cmds.Accept event aims now) (says.Dropped why) is fits = absurd fits
accept_reply (cmds.Accept event aims now) (says.Again at) is fits = absurd fits
accept_reply (cmds.Accept event aims now) (says.Dead number) is fits = absurd fits
accept_reply (cmds.Accept event aims now) (says.Counts owed done dropped dead) is fits = absurd fits
accept_reply (cmds.Take now) reply is fits = absurd is
accept_reply (cmds.Settle number sub claim finish now drawn dead) reply is fits = absurd is
accept_reply cmds.Counts reply is fits = absurd is

-- ---- statuses

abbrev IsStatus : Response → Type 0
IsStatus response = (200 ≤ response.status) × (response.status ≤ 599)

or_status : (response : Response) (reply : Result Response ApiErr) → IsStatus response → IsOr response reply → IfOk reply IsStatus
or_status response reply its (inl is) = subst (λ r. IfOk r IsStatus) (sym is) its
or_status response reply its (inr is) = subst (λ r. IfOk r IsStatus) (sym is) tt

no_status : (reply : Result Response ApiErr) (e : ApiErr) → reply ≡ Err e → IfOk reply IsStatus
no_status reply e is = subst (λ r. IfOk r IsStatus) (sym is) tt

pub accept_status : (answer : LedgerReply) (reply : Result Response ApiErr) → AcceptReplies answer reply → IfOk reply IsStatus
accept_status (says.Accepted number) reply is = subst (λ r. IfOk r IsStatus) (sym is) (omega arith, omega arith)
accept_status (says.Full rows bytes) reply is = or_status _ reply (omega arith, omega arith) is
accept_status says.NoMemory reply is = no_status reply error.NoMemory is
accept_status (says.Taken number sub claim given path attempt) reply is = absurd is
accept_status (says.Idle next) reply is = absurd is
accept_status says.NotTaken reply is = absurd is
accept_status says.Done reply is = absurd is
accept_status (says.Dropped why) reply is = absurd is
accept_status (says.Again at) reply is = absurd is
accept_status (says.Dead number) reply is = absurd is
accept_status (says.Counts owed done dropped dead) reply is = absurd is

pub refusal_status : (topic : List ℕ) (why : PubErr) (reply : Result Response ApiErr) → RefusalReplies topic why reply → IfOk reply IsStatus
refusal_status topic refusal.Forbidden reply is = or_status _ reply (omega arith, omega arith) is
refusal_status topic (refusal.Event why) reply is = or_status _ reply (omega arith, omega arith) is
refusal_status topic refusal.NoMemory reply is = no_status reply error.NoMemory is

-- no refusal is told as an exhausted cell
or_unspent : (response : Response) (reply : Result Response ApiErr) (count : ℕ) → IsOr response reply → reply ≡ Err (error.Exhausted count) → ⊥
or_unspent response reply count (inl is) spent = (let e = sym is ∙ spent in let bad : ⊥ = cc in bad)
or_unspent response reply count (inr is) spent = (let e = sym is ∙ spent in let bad : ⊥ = cc in bad)

pub refusal_unspent : (topic : List ℕ) (why : PubErr) (reply : Result Response ApiErr) (count : ℕ) → RefusalReplies topic why reply → reply ≡ Err (error.Exhausted count) → ⊥
refusal_unspent topic refusal.Forbidden reply count is spent = or_unspent _ reply count is spent
refusal_unspent topic (refusal.Event why) reply count is spent = or_unspent _ reply count is spent
refusal_unspent topic refusal.NoMemory reply count is spent = (let e = sym is ∙ spent in let bad : ⊥ = cc in bad)

pub accept_unspent : (answer : LedgerReply) (reply : Result Response ApiErr) (count : ℕ) → AcceptReplies answer reply → reply ≡ Err (error.Exhausted count) → ⊥
accept_unspent (says.Accepted number) reply count is spent = (let e = sym is ∙ spent in let bad : ⊥ = cc in bad)
accept_unspent (says.Full rows bytes) reply count is spent = or_unspent _ reply count is spent
accept_unspent says.NoMemory reply count is spent = (let e = sym is ∙ spent in let bad : ⊥ = cc in bad)
accept_unspent (says.Taken number sub claim given path attempt) reply count is spent = absurd is
accept_unspent (says.Idle next) reply count is spent = absurd is
accept_unspent says.NotTaken reply count is spent = absurd is
accept_unspent says.Done reply count is spent = absurd is
accept_unspent (says.Dropped why) reply count is spent = absurd is
accept_unspent (says.Again at) reply count is spent = absurd is
accept_unspent (says.Dead number) reply count is spent = absurd is
accept_unspent (says.Counts owed done dropped dead) reply count is spent = absurd is
