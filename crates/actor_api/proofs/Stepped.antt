-- One step of the turns, pauses, calls of the link, and one after the other.
use Rattle.std.proofs.Common.{◌≡◌, ℕ, List, [], ◌∷◌, ◌++◌, refl, sym, ap, subst}
use Rattle.std.specs.Prelude.{Option, Some, None, Result, Ok, Err, IfOk, IfErr, if◌then◌else◌, ◌==◌, Bool, true, false}
use Rattle.turn_cell.specs.declared.error.Exhausted.{Exhausted}
use Rattle.turn_cell.specs.Sitting.{Begun, Extends, Exhausts, entry_by}
use Rattle.turn_cell.specs.History.{IsLegal}
use Rattle.turn_cell.proofs.Growing.{called, exhausted as ran_out}
use Rattle.actor_turns.specs.declared.turns.Turns.{Turns}
use Rattle.actor_turns.specs.declared.command.TurnsCmd.{TurnsCmd}
use Rattle.actor_turns.specs.declared.command.TurnsCmd.TheVariants.{Join, Look, Leave}
use Rattle.actor_turns.specs.declared.command.TurnsReply.{TurnsReply}
use Rattle.actor_turns.specs.declared.command.TurnsReply.TheVariants as says
use Rattle.actor_turns.specs.Course.{Answers, IsStep, LeaveAnswers, LookAnswers, Open, Step, actor_of, ahead_of, given_in, open_in}
use Rattle.actor_api.specs.Stepping.{Fits, StepsBy, TurnsGhosts, TurnsSeat}

-- ---- replies fit their commands

look_fits : (actor : Option (List ℕ)) (ticket : ℕ) (held : List Open) (reply : TurnsReply) → LookAnswers actor ticket held reply → Fits (Look ticket) reply
look_fits None ticket held reply is = subst (Fits (Look ticket)) (sym is) tt
look_fits (Some actor) ticket held reply is = subst (Fits (Look ticket)) (sym is) (by (ahead_of ticket actor held == 0))
  where
    by : (b : Bool) → Fits (Look ticket) (if b then says.Yours else says.Behind (ahead_of ticket actor held))
    by true = tt
    by false = tt

leave_fits : (actor : Option (List ℕ)) (ticket : ℕ) (reply : TurnsReply) → LeaveAnswers actor reply → Fits (Leave ticket) reply
leave_fits None ticket reply is = subst (Fits (Leave ticket)) (sym is) tt
leave_fits (Some actor) ticket reply is = subst (Fits (Leave ticket)) (sym is) tt

join_fits : (held : List Open) (given : ℕ) (actor : List ℕ) (reply : TurnsReply) → Answers held given (Join actor) reply → Fits (Join actor) reply
join_fits held given actor (says.Joined ticket) is = tt
join_fits held given actor (says.Full waiting) is = tt
join_fits held given actor says.NoMemory is = tt
join_fits held given actor says.Yours is = absurd is
join_fits held given actor (says.Behind ahead) is = absurd is
join_fits held given actor says.Left is = absurd is
join_fits held given actor says.NotOpen is = absurd is

fits_by : (held : List Open) (given : ℕ) (cmd : TurnsCmd) (reply : TurnsReply) → Answers held given cmd reply → Fits cmd reply
fits_by held given (Join actor) reply is = join_fits held given actor reply is
fits_by held given (Look ticket) reply is = look_fits (actor_of ticket held) ticket held reply is
fits_by held given (Leave ticket) reply is = leave_fits (actor_of ticket held) ticket reply is

-- ---- one step

module _ (object : TurnsGhosts) (cell : Begun Turns) (seat seat' : TurnsSeat) where
  pub steps_by : (cmd : TurnsCmd) → ((history : List Step) → IsLegal object cell.first history → (before after : List Step) (entry : Step) → history ≡ before ++ entry ∷ after → IsStep before entry) → (result : Result TurnsReply Exhausted)
      → IfOk result (λ reply. Extends object cell.first seat cmd reply seat') → IfErr result (λ e. Exhausts object cell.first seat e.count seat') → StepsBy object cell seat seat' cmd result
  steps_by cmd are (Ok reply) did out =
      let entry = entry_by seat cmd reply did.mark in
      let last = ap (λ (z : TurnsSeat). z.seen) did.whole in
      let step = are seat'.seen did.sound.legal (seat.seen ++ did.others) [] entry last in (
        entry,
        record { told = refl; answer = refl; fits = fits_by (open_in (seat.seen ++ did.others)) (given_in (seat.seen ++ did.others)) cmd reply step.reply },
        called object cell.first seat cmd reply seat' did,
      )
  steps_by cmd are (Err e) did out = (ap (λ (z : TurnsSeat). z.count) out.whole, ran_out object cell.first seat e.count seat' out)
