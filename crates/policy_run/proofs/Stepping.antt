-- One step of a breaker by the guard that holds a seat of it.
use Rattle.std.proofs.Common.{◌≡◌, ℕ, List, [], ◌∷◌, ◌++◌, Result, Ok, Err, Some, ◌∙◌, refl, ap, subst}
use Rattle.std.specs.Prelude.{IfOk, IfErr}
use Rattle.turn_cell.specs.declared.error.Exhausted.{Exhausted}
use Rattle.turn_cell.specs.declared.object.Object.{Ghosts}
use Rattle.turn_cell.specs.Sitting.{Begun, Sitting, Extends, Exhausts, entry_by}
use Rattle.turn_cell.proofs.Growing.{called, exhausted}
use Rattle.breaker_core.specs.declared.breaker.Breaker.{Breaker}
use Rattle.breaker_core.specs.declared.command.BreakerCmd.{BreakerCmd}
use Rattle.breaker_core.specs.declared.command.BreakerReply.{BreakerReply}
use Rattle.breaker_core.specs.Course.{Step}
use Rattle.breaker_core.specs.Laws.{AreFitting}
use Rattle.turn_cell.specs.History.{IsLegal}
use Rattle.policy_run.specs.Turn.{Answers}
use Rattle.policy_run.specs.declared.guard.Stepped.{Stepped}
use Rattle.policy_run.specs.declared.guard.Stepped.TheVariants as stepped
use Rattle.policy_run.specs.BreakerAt.{Kept, stepped_of}

-- the guard's seat makes the step, with this command and the reply that is answered
module _ (object : Ghosts Breaker BreakerCmd BreakerReply) (cell : Begun Breaker) (name : ℕ) (seat seat' : Sitting Breaker BreakerCmd BreakerReply) (cmd : BreakerCmd) (fits : (history : List Step) → IsLegal object cell.first history → AreFitting history) where
  one_step : (reply : BreakerReply) → Extends object cell.first seat cmd reply seat' → (step : Step) × Answers step cmd reply × Kept object cell name seat (step ∷ []) cell name seat'
  one_step reply did = (
    entry_by seat cmd reply did.mark,
    record { cmd = refl; reply = refl; fits = fits seat'.seen did.sound.legal (seat.seen ++ did.others) [] (entry_by seat cmd reply did.mark) (ap (λ (z : Sitting Breaker BreakerCmd BreakerReply). z.seen) did.whole) },
    record { same_cell = refl; same_seat = refl; grew = called object cell.first seat cmd reply seat' did },
  )

  pub answered : (result : Result BreakerReply Exhausted) (came : Stepped) → IfOk result (λ reply. Extends object cell.first seat cmd reply seat') → came ≡ stepped_of result
      → (reply : BreakerReply) → came ≡ stepped.Answered reply → (step : Step) × Answers step cmd reply × Kept object cell name seat (step ∷ []) cell name seat'
  answered (Ok given) came did is reply told = subst (λ r. (step : Step) × Answers step cmd r × Kept object cell name seat (step ∷ []) cell name seat') (cc (is, told)) (one_step given did)
  answered (Err exhausted) came did is reply told = absurd (cc (is, told))

  pub ran_out : (result : Result BreakerReply Exhausted) (came : Stepped) → IfErr result (λ e. Exhausts object cell.first seat e.count seat') → came ≡ stepped_of result
      → (count : ℕ) → came ≡ stepped.Exhausted count → Kept object cell name seat [] cell name seat' × (seat'.count ≡ Some count)
  ran_out (Ok given) came did is count told = absurd (cc (is, told))
  ran_out (Err e) came did is count told =
      (record { same_cell = refl; same_seat = refl; grew = exhausted object cell.first seat e.count seat' did }, ap (λ (z : Sitting Breaker BreakerCmd BreakerReply). z.count) did.whole ∙ ap Some (cc (is, told)))
