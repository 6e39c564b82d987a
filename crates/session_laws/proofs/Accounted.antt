-- What becomes of each message that a run took.
use Rattle.std.proofs.Common.{◌≡◌, ◌∙◌, ℕ, Bool, cond, List, [], ◌∷◌, ◌++◌, flat_map, Option, Some, None, refl, sym, ap, subst}
use Rattle.std.proofs.lemmas.Bool.Decides.{Decides-eqb}
use Rattle.ledger_core.specs.declared.plan.Aim.{Aim}
use Rattle.ledger_core.specs.declared.command.LedgerCmd.TheVariants.{Accept}
use Rattle.ledger_core.specs.Message.{Step, Message, pair_of}
use Rattle.ledger_core.specs.Standing.{Standing, Status, dead, done, dropped, owed, standing}
use Rattle.sidecar_objects.specs.declared.doing.Doing.TheVariants.{Stepped}
use Rattle.sidecar_objects.specs.declared.doing.SlotStep.TheVariants as slot
use Rattle.sidecar_objects.specs.Doing.{steps_at}
use Rattle.sidecar_objects.specs.Kind.{CellsAt, Kinds, ledgers}
use Rattle.sidecar_turns.specs.Accounts.{AcceptedHaveOne, CountsAreAll, HasOneStatus, MessagesHaveOne, OfEachLedger}
use Rattle.sidecar_core.specs.Named.{ledger_of}
use Rattle.session_laws.specs.Served.{Served}
use Rattle.session_laws.specs.Histories.{StepsStandInHistories}
use Rattle.session_laws.specs.Messages.{stamped}
use Rattle.session_laws.specs.Accounts.{AccountsForAll, IsAccountedFor, IsTakenIntoAccount, message_by, ways_of}

-- ---- one delivery

-- it is one of the five
one_way : (s : Standing) → ways_of s ≡ 1
one_way s = by s.status s.claim
  where
    by : (status : Status) (claim : Option ℕ) → ways_of (record s { status = status; claim = claim }) ≡ 1
    by owed None = refl
    by owed (Some claim) = refl
    by done claim = refl
    by dropped claim = refl
    by dead claim = refl

accounted : (history : List Step) (message : Message) (aim : Aim) → HasOneStatus history message aim → IsAccountedFor history message aim
accounted history message aim one = record { delivery = one; way = one_way (standing history (pair_of message aim)) }

-- ---- a ledger

pub accounts_for_all : (history : List Step) → AcceptedHaveOne history → MessagesHaveOne history → CountsAreAll history → AccountsForAll history
accounts_for_all history accepted messages counted = record {
  accepted = λ before after entry event aims now number is asked answered earlier later aim aims-are.
      accounted history (message_by event aims now number) aim (subst (λ l. HasOneStatus history (message_by event l now number) aim) (sym aims-are)
      (accepted before after entry event earlier later aim now number is (asked ∙ ap (λ l. Accept event l now) aims-are) answered));
  messages = λ before after message is earlier later aim aims-are. accounted history message aim (messages before after message earlier later aim is aims-are);
  counted = counted;
}

pub each_accounts : {O : Type 0} (kinds : Kinds O) → OfEachLedger kinds AcceptedHaveOne → OfEachLedger kinds MessagesHaveOne → OfEachLedger kinds CountsAreAll → OfEachLedger kinds AccountsForAll
each_accounts kinds accepted messages counted cells seats sound place cell seat at there =
    accounts_for_all seat.seen (accepted cells seats sound place cell seat at there) (messages cells seats sound place cell seat at there) (counted cells seats sound place cell seat at there)

-- ---- a message that was published

-- the step at its ledger is the one that was made there
one_step : (place first second at : ℕ) (step : Step) → flat_map (steps_at ledgers place) (stamped first second at ++ Stepped (slot.Ledger place step) ∷ []) ≡ step ∷ []
one_step place first second at step = ap (λ (here : Bool). cond here (step ∷ []) [] ++ []) ((Decides-eqb place place).1 refl)

pub taken_into_account : {O : Type 0} (kinds : Kinds O) (cells : CellsAt O) (pubsub topic : List ℕ) (served : Served O) → OfEachLedger kinds AccountsForAll → StepsStandInHistories kinds cells served → IsTakenIntoAccount kinds cells pubsub topic served
taken_into_account kinds cells pubsub topic served each stand sound number given cell seat seat' at event aims now asked =
    let place = ledger_of served.config given.place in
    let its = stand sound ledgers place cell seat seat' given.step at
    (record { earlier = []; later = []; whole = ap (flat_map (steps_at ledgers place)) given.whole ∙ one_step place given.first given.second given.at given.step }) in
    (each cells served.after.seats sound place cell seat' at.cell_there at.still_there).accepted its.before its.later given.step event aims now number its.whole asked given.says
