-- One attempt of a state call: one step of the store, at a moment that was read just before.
use Rattle.std.specs.Prelude.{◌≡◌, ℕ, List, [], ◌∷◌, ◌++◌, Option, Some, refl}
use Rattle.std.proofs.Common.{◌∙◌, subst, sym, ap}
use Rattle.std.specs.List.{All}
use Rattle.state_core.specs.declared.command.Cmd.TheVariants.{Get, Save, Delete, Bulk, Transact}
use Rattle.state_core.specs.Judged.{ops_of}
use Rattle.turn_cell.specs.declared.object.Object.{Ghosts}
use Rattle.turn_cell.specs.Sitting.{Begun, Sitting, IsSeatOf}
use Rattle.turn_cell.specs.Growth.{Grew}
use Rattle.turn_cell.proofs.Growing.{grew_none, grew_more, still_of}
use Rattle.state_core.specs.declared.command.Cmd.{Cmd}
use Rattle.state_core.specs.declared.reply.Reply.{Reply}
use Rattle.state_core.specs.declared.reply.Reply.TheVariants as reply
use Rattle.state_core.specs.History.{Step}
use Rattle.state_core.specs.Taken.{IsTaken, HasTtl}
use Rattle.policy_run.specs.declared.operation.Attempt.{Attempt}
use Rattle.policy_run.specs.declared.operation.Attempt.TheVariants as attempt
use Rattle.policy_run.specs.Event.{Event, own, moment}
use Rattle.state_api.specs.declared.call.StateAnswer.{StateAnswer}
use Rattle.state_api.specs.declared.call.StateAnswer.TheVariants.{Replied, Exhausted}
use Rattle.state_core.specs.Moved.{at_moment}
use Rattle.state_core.specs.Fits.{Fits}
use Rattle.state_api.specs.Moment.{IsSame}

-- a reply as the end of an attempt: only a store that failed is a failing attempt
abbrev pub answer_of : Reply → Attempt StateAnswer (Unit {0})
answer_of reply.Failed = attempt.Bad tt
answer_of reply.NoMemory = attempt.NoMemory
answer_of other = attempt.Good (Replied other)

-- What an attempt that answers so does: a step of the store with this command, whose reply is the answer; or it finds the store's cell exhausted
pub data Makes (cmd : Cmd) (answer : Attempt StateAnswer (Unit {0})) (events : List (Event Step)) : Type 0 where
  stepped : (now : ℕ) (step : Step) → step.cmd ≡ at_moment now cmd → Fits step.cmd step.reply → answer ≡ answer_of step.reply → events ≡ moment now ∷ own step ∷ [] → Makes cmd answer events
  exhausted : (now count : ℕ) → answer ≡ attempt.Good (Exhausted count) → events ≡ moment now ∷ [] → Makes cmd answer events

-- the same of the same command at another moment
pub alike : (cmd after : Cmd) (answer : Attempt StateAnswer (Unit {0})) (events : List (Event Step)) → IsSame cmd after → Makes after answer events → Makes cmd answer events
alike cmd after answer events same (stepped now step asked fits answered is) = stepped now step (asked ∙ same now) fits answered is
alike cmd after answer events same (exhausted now count answered is) = exhausted now count answered is

-- an attempt that found the cell exhausted leaves a seat that shows the count
abbrev pub Shows : Option ℕ → StateAnswer → Type 0
Shows shown (Replied reply) = Unit {0}
Shows shown (Exhausted count) = shown ≡ Some count

-- the operation still has the same seat of the same cell, which made these steps, and the same command
pub record Did {O : Type 0} (object : Ghosts O Cmd Reply) (cell : Begun O) (seat-name cmd-name : ℕ) (seat : Sitting O Cmd Reply) (cmd : Cmd) (steps : List Step) (cell' : Begun O) (seat-name' cmd-name' : ℕ) (seat' : Sitting O Cmd Reply) (cmd' : Cmd) : Type 0 where
  pub same_cell : cell' ≡ cell
  pub same_seat : seat-name' ≡ seat-name
  pub same_place : cmd-name' ≡ cmd-name
  pub same_cmd : IsSame cmd cmd'
  pub grew : Grew object cell.first seat steps seat'

module _ {O : Type 0} (object : Ghosts O Cmd Reply) where
  pub did_none : (cell : Begun O) (seat-name cmd-name : ℕ) (seat : Sitting O Cmd Reply) (cmd : Cmd) → Did object cell seat-name cmd-name seat cmd [] cell seat-name cmd-name seat cmd
  did_none cell seat-name cmd-name seat cmd = record { same_cell = refl; same_seat = refl; same_place = refl; same_cmd = λ moment. refl; grew = grew_none object cell.first seat }

  pub did_more : (cell : Begun O) (seat-name cmd-name : ℕ) (seat : Sitting O Cmd Reply) (cmd : Cmd) (first : List Step) (cell' : Begun O) (seat-name' cmd-name' : ℕ) (seat' : Sitting O Cmd Reply) (cmd' : Cmd) (second : List Step) (cell'' : Begun O) (seat-name'' cmd-name'' : ℕ) (seat'' : Sitting O Cmd Reply) (cmd'' : Cmd)
      → Did object cell seat-name cmd-name seat cmd first cell' seat-name' cmd-name' seat' cmd' → Did object cell' seat-name' cmd-name' seat' cmd' second cell'' seat-name'' cmd-name'' seat'' cmd'' → Did object cell seat-name cmd-name seat cmd (first ++ second) cell'' seat-name'' cmd-name'' seat'' cmd''
  did_more cell seat-name cmd-name seat cmd first cell' seat-name' cmd-name' seat' cmd' second cell'' seat-name'' cmd-name'' seat'' cmd'' h k = record {
    same_cell = k.same_cell ∙ h.same_cell;
    same_seat = k.same_seat ∙ h.same_seat;
    same_place = k.same_place ∙ h.same_place;
    same_cmd = λ moment. k.same_cmd moment ∙ h.same_cmd moment;
    grew = grew_more object cell.first seat first seat' second seat'' h.grew (subst (λ z. Grew object z.first seat' second seat'') h.same_cell k.grew);
  }

  pub did_seated : (cell : Begun O) (seat-name cmd-name : ℕ) (seat : Sitting O Cmd Reply) (cmd : Cmd) (steps : List Step) (cell' : Begun O) (seat-name' cmd-name' : ℕ) (seat' : Sitting O Cmd Reply) (cmd' : Cmd)
      → IsSeatOf cell seat → Did object cell seat-name cmd-name seat cmd steps cell' seat-name' cmd-name' seat' cmd' → IsSeatOf cell' seat'
  did_seated cell seat-name cmd-name seat cmd steps cell' seat-name' cmd-name' seat' cmd' of d = subst (λ z. IsSeatOf z seat') (sym d.same_cell) (still_of object cell seat steps seat' d.grew of)

-- a command may be given at any moment, if it may at one
ops_stay : (cmd : Cmd) (at : ℕ) → ops_of (at_moment at cmd) ≡ ops_of cmd
ops_stay (Get key now) at = refl
ops_stay (Save items now) at = refl
ops_stay (Delete key etag mode now) at = refl
ops_stay (Bulk keys skip now) at = refl
ops_stay (Transact ops now) at = refl

pub same_taken : (cmd after : Cmd) → IsSame cmd after → IsTaken cmd → IsTaken after
same_taken cmd after same taken = subst (λ ops. All HasTtl ops) (sym (ops_stay cmd 0) ∙ sym (ap ops_of (same 0)) ∙ ops_stay after 0) taken
