-- One attempt of a state call.
use Rattle.std.proofs.Common.{◌≡◌, ℕ, List, [], ◌∷◌, ◌++◌, Option, Some, Result, Err, refl, sym, ap, subst, ◌∙◌, arith}
use Rattle.std.specs.Prelude.{◌⊎◌}
use Rattle.std.proofs.Common.{inl, inr}
use Rattle.turn_cell.specs.declared.error.ApiErr.{ApiErr}
use Rattle.turn_cell.specs.declared.error.ApiErr.TheVariants as error
use Rattle.policy_run.specs.declared.outcome.Outcome.{Outcome}
use Rattle.policy_run.specs.declared.outcome.Outcome.TheVariants as outcomes
use Rattle.state_api.specs.declared.running.Ran.{Ran}
use Rattle.state_api.specs.Ran.{ran_of}
use Rattle.turn_cell.specs.declared.object.Object.{Ghosts}
use Rattle.turn_cell.specs.History.{IsLegal}
use Rattle.turn_cell.specs.Sitting.{Begun, Sitting, Extends, Exhausts, entry_by}
use Rattle.turn_cell.proofs.Growing.{called, exhausted}
use Rattle.state_core.specs.declared.command.Cmd.{Cmd}
use Rattle.state_core.specs.declared.reply.Reply.{Reply}
use Rattle.state_core.specs.History.{Step}
use Rattle.state_core.specs.Moved.{at_moment}
use Rattle.state_core.specs.Fits.{Fits}
use Rattle.policy_run.specs.declared.operation.Attempt.{Attempt}
use Rattle.policy_run.specs.declared.operation.Attempt.TheVariants as attempt
use Rattle.policy_run.specs.Event.{Event, own, moment}
use Rattle.policy_run.specs.Effects.{Clocked, Effects, ReadsNow}
use Rattle.state_api.specs.declared.call.StateAnswer.{StateAnswer}
use Rattle.state_api.specs.declared.call.StateAnswer.TheVariants.{Replied, Exhausted}
use Rattle.state_api.specs.Moment.{moved_again}
use Rattle.state_api.specs.Call.{Makes, Did, Shows, answer_of}
use Rattle.state_api.specs.Call as makes

module _ {O : Type 0} (object : Ghosts O Cmd Reply) (cell : Begun O) (seat-name cmd-name : ℕ) (seat seat' : Sitting O Cmd Reply) (cmd : Cmd) (now : ℕ) (clock clock' : Clocked)
    (reads : ReadsNow clock now clock') where
  -- the store made a step
  pub stepped : (reply : Reply) → Extends object cell.first seat (at_moment now cmd) reply seat'
      → ((history before after : List Step) (entry : Step) → IsLegal object cell.first history → history ≡ before ++ entry ∷ after → Fits entry.cmd entry.reply)
      → (events : List (Event Step)) × Makes cmd (answer_of reply) events × Effects events (λ xs. Did object cell seat-name cmd-name seat cmd xs cell seat-name cmd-name seat' (at_moment now cmd)) (λ xs. xs ≡ []) clock clock' (λ xs. xs ≡ [])
  stepped reply did fits = let step : Step = entry_by seat (at_moment now cmd) reply did.mark in (
    moment now ∷ own step ∷ [],
    makes.stepped now step refl (fits seat'.seen (seat.seen ++ did.others) [] step did.sound.legal (ap (λ (z : Sitting O Cmd Reply). z.seen) did.whole)) refl refl,
    record {
      owned = record { same_cell = refl; same_seat = refl; same_place = refl; same_cmd = moved_again cmd now; grew = called object cell.first seat (at_moment now cmd) reply seat' did };
      guards = refl;
      times = (omega (arith, reads.later, reads.last), omega (arith, reads.last));
      pauses = (omega (arith, reads.paused), omega (arith, reads.paused), λ below. omega (arith, reads.paused));
      ticks = reads.ticks;
      words = refl;
    },
  )

  -- the store's cell was exhausted
  pub unstepped : (count : ℕ) → Exhausts object cell.first seat count seat'
      → (events : List (Event Step)) × Makes cmd (attempt.Good (Exhausted count)) events × Effects events (λ xs. Did object cell seat-name cmd-name seat cmd xs cell seat-name cmd-name seat' (at_moment now cmd)) (λ xs. xs ≡ []) clock clock' (λ xs. xs ≡ [])
  unstepped count did = (
    moment now ∷ [],
    makes.exhausted now count refl refl,
    record {
      owned = record { same_cell = refl; same_seat = refl; same_place = refl; same_cmd = moved_again cmd now; grew = exhausted object cell.first seat count seat' did };
      guards = refl;
      times = (omega (arith, reads.later, reads.last), omega (arith, reads.last));
      pauses = (omega (arith, reads.paused), omega (arith, reads.paused), λ below. omega (arith, reads.paused));
      ticks = reads.ticks;
      words = refl;
    },
  )

  abbrev Comes : Attempt StateAnswer (Unit {0}) → Cmd → Type 0
  Comes answer after = (events : List (Event Step)) × Makes cmd answer events × Effects events (λ xs. Did object cell seat-name cmd-name seat cmd xs cell seat-name cmd-name seat' after) (λ xs. xs ≡ []) clock clock' (λ xs. xs ≡ [])

  -- the same of a command that was given this moment
  pub stepped_as : (after : Cmd) (reply : Reply) (answer : Attempt StateAnswer (Unit {0})) → after ≡ at_moment now cmd → answer ≡ answer_of reply → Extends object cell.first seat after reply seat'
      → ((history before behind : List Step) (entry : Step) → IsLegal object cell.first history → history ≡ before ++ entry ∷ behind → Fits entry.cmd entry.reply)
      → (events : List (Event Step)) × Makes cmd answer events × Effects events (λ xs. Did object cell seat-name cmd-name seat cmd xs cell seat-name cmd-name seat' after) (λ xs. xs ≡ []) clock clock' (λ xs. xs ≡ [])
  stepped_as after reply answer moved is did fits = subst (λ z. Comes z after) (sym is) (subst (λ z. Comes (answer_of reply) z) (sym moved) (stepped reply (subst (λ z. Extends object cell.first seat z reply seat') moved did) fits))

  pub unstepped_as : (after : Cmd) (count : ℕ) → after ≡ at_moment now cmd → Exhausts object cell.first seat count seat'
      → (events : List (Event Step)) × Makes cmd (attempt.Good (Exhausted count)) events × Effects events (λ xs. Did object cell seat-name cmd-name seat cmd xs cell seat-name cmd-name seat' after) (λ xs. xs ≡ []) clock clock' (λ xs. xs ≡ [])
  unstepped_as after count moved did = subst (λ z. Comes (attempt.Good (Exhausted count)) z) (sym moved) (unstepped count did)

-- where a call ended on an exhausted cell, the breaker's seat or the store's shows the count
pub shows_count : (shown told : Option ℕ) (guard-shows : ℕ → Type 0) (outcome : Outcome StateAnswer (Unit {0})) (result : Result Ran ApiErr) → result ≡ ran_of outcome → shown ≡ told
    → ((good : StateAnswer) → outcome ≡ outcomes.Good good → Shows told good) → ((count : ℕ) → outcome ≡ outcomes.Exhausted count → guard-shows count)
    → (count : ℕ) → result ≡ Err (error.Exhausted count) → guard-shows count ⊎ (shown ≡ Some count)
shows_count shown told guard-shows (outcomes.Good (Replied reply)) result is same store guard count ended = absurd (cc (is, ended))
shows_count shown told guard-shows (outcomes.Good (Exhausted n)) result is same store guard count ended = inr (same ∙ store (Exhausted n) refl ∙ ap Some (cc (is, ended)))
shows_count shown told guard-shows (outcomes.Bad failed) result is same store guard count ended = absurd (cc (is, ended))
shows_count shown told guard-shows (outcomes.Refused refusal) result is same store guard count ended = absurd (cc (is, ended))
shows_count shown told guard-shows (outcomes.Exhausted n) result is same store guard count ended = inl (guard count (ap outcomes.Exhausted (cc (is, ended))))
shows_count shown told guard-shows outcomes.NoMemory result is same store guard count ended = absurd (cc (is, ended))
