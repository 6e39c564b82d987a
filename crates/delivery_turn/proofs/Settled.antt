-- A row is settled.
use Rattle.std.proofs.Common.{◌≡◌, refl, ap, sym, ◌∙◌, arith, ℕ, List, []}
use Rattle.std.specs.Prelude.{Some}
use Rattle.ledger_core.specs.declared.reply.LedgerReply.{LedgerReply}
use Rattle.ledger_core.specs.declared.reply.LedgerReply.TheVariants as says
use Rattle.ledger_core.specs.Aims.{AreAims, IsGiven}
use Rattle.policy_run.specs.Event.{Event}
use Rattle.delivery_turn.specs.declared.row.Row.{Row}
use Rattle.delivery_turn.specs.declared.settling.Early.TheVariants as early
use Rattle.delivery_turn.specs.declared.settling.Settling.{Settling}
use Rattle.delivery_turn.specs.declared.settling.Settling.TheVariants.{Concluded, Postponed, LetGo}
use Rattle.delivery_turn.specs.declared.ending.Turn.{Turn}
use Rattle.delivery_turn.specs.declared.ending.Turn.TheVariants as turn
use Rattle.delivery_turn.specs.Settling.{Own, Answered, Stuck, settled, lacks, exhausted, released, kept}
use Rattle.delivery_turn.specs.Turning.{AreSettlingAims, SettlesSo, early_of, settle_by, turn_by}

no_aims : (plans : ℕ) → AreAims plans []
no_aims plans = record { planned = λ k d within. absurd (omega (arith, within)); once = λ i j d less within. absurd (omega (arith, within)) }

pub settle_given : (plans : ℕ) (row : Row) (settling : Settling) (now : ℕ) → AreSettlingAims plans settling → IsGiven plans (settle_by row settling now)
settle_given plans row (Concluded ends drawn dead) now are = are
settle_given plans row (Postponed why) now are = no_aims plans
settle_given plans row (LetGo why) now are = no_aims plans

pub settles_so : (row : Row) (settling : Settling) (reply : LedgerReply) (came : Turn) (events : List (Event Own)) → came ≡ turn_by row (early_of settling) reply → Answered (settle_by row settling) reply events → SettlesSo row settling came events
settles_so row (LetGo early.Held) reply came events is answered = released reply answered is
settles_so row (LetGo (early.Exhausted count)) reply came events is answered = released reply answered is
settles_so row (Concluded ends drawn dead) says.NoMemory came events is answered = lacks answered is
settles_so row (Postponed why) says.NoMemory came events is answered = lacks answered is
settles_so row (Concluded ends drawn letters) (says.Accepted number) came events is answered = settled (says.Accepted number) (λ e. let bad : ⊥ = cc in bad) answered is
settles_so row (Concluded ends drawn letters) (says.Full rows bytes) came events is answered = settled (says.Full rows bytes) (λ e. let bad : ⊥ = cc in bad) answered is
settles_so row (Concluded ends drawn letters) (says.Taken number sub claim given path attempt) came events is answered = settled (says.Taken number sub claim given path attempt) (λ e. let bad : ⊥ = cc in bad) answered is
settles_so row (Concluded ends drawn letters) (says.Idle next) came events is answered = settled (says.Idle next) (λ e. let bad : ⊥ = cc in bad) answered is
settles_so row (Concluded ends drawn letters) says.NotTaken came events is answered = settled says.NotTaken (λ e. let bad : ⊥ = cc in bad) answered is
settles_so row (Concluded ends drawn letters) says.Done came events is answered = settled says.Done (λ e. let bad : ⊥ = cc in bad) answered is
settles_so row (Concluded ends drawn letters) (says.Dropped why) came events is answered = settled (says.Dropped why) (λ e. let bad : ⊥ = cc in bad) answered is
settles_so row (Concluded ends drawn letters) (says.Again at) came events is answered = settled (says.Again at) (λ e. let bad : ⊥ = cc in bad) answered is
settles_so row (Concluded ends drawn letters) (says.Dead number) came events is answered = settled (says.Dead number) (λ e. let bad : ⊥ = cc in bad) answered is
settles_so row (Concluded ends drawn letters) (says.Counts owed done dropped dead) came events is answered = settled (says.Counts owed done dropped dead) (λ e. let bad : ⊥ = cc in bad) answered is
settles_so row (Postponed refused) (says.Accepted number) came events is answered = settled (says.Accepted number) (λ e. let bad : ⊥ = cc in bad) answered is
settles_so row (Postponed refused) (says.Full rows bytes) came events is answered = settled (says.Full rows bytes) (λ e. let bad : ⊥ = cc in bad) answered is
settles_so row (Postponed refused) (says.Taken number sub claim given path attempt) came events is answered = settled (says.Taken number sub claim given path attempt) (λ e. let bad : ⊥ = cc in bad) answered is
settles_so row (Postponed refused) (says.Idle next) came events is answered = settled (says.Idle next) (λ e. let bad : ⊥ = cc in bad) answered is
settles_so row (Postponed refused) says.NotTaken came events is answered = settled says.NotTaken (λ e. let bad : ⊥ = cc in bad) answered is
settles_so row (Postponed refused) says.Done came events is answered = settled says.Done (λ e. let bad : ⊥ = cc in bad) answered is
settles_so row (Postponed refused) (says.Dropped why) came events is answered = settled (says.Dropped why) (λ e. let bad : ⊥ = cc in bad) answered is
settles_so row (Postponed refused) (says.Again at) came events is answered = settled (says.Again at) (λ e. let bad : ⊥ = cc in bad) answered is
settles_so row (Postponed refused) (says.Dead number) came events is answered = settled (says.Dead number) (λ e. let bad : ⊥ = cc in bad) answered is
settles_so row (Postponed refused) (says.Counts owed done dropped dead) came events is answered = settled (says.Counts owed done dropped dead) (λ e. let bad : ⊥ = cc in bad) answered is

-- its cell was exhausted
pub stuck_so : (row : Row) (settling : Settling) (count : ℕ) (events : List (Event Own)) → Stuck events → SettlesSo row settling (turn.Exhausted count) events
stuck_so row (Concluded ends drawn dead) count events stuck = exhausted count stuck refl
stuck_so row (Postponed why) count events stuck = exhausted count stuck refl
stuck_so row (LetGo early.Held) count events stuck = kept count stuck refl
stuck_so row (LetGo (early.Exhausted other)) count events stuck = kept count stuck refl

-- a turn that ends on an exhausted cell after a reply is one that was to end so
pub spent_early : (row : Row) (settling : Settling) (reply : LedgerReply) (came : Turn) (count : ℕ) → came ≡ turn_by row (early_of settling) reply → came ≡ turn.Exhausted count → early_of settling ≡ Some (early.Exhausted count)
spent_early row (LetGo early.Held) reply came count is e = (let wrong = sym is ∙ e in let bad : ⊥ = cc in absurd bad)
spent_early row (LetGo (early.Exhausted other)) reply came count is e = (let same = sym is ∙ e in let counts : other ≡ count = cc in ap (λ n. Some (early.Exhausted n)) counts)
spent_early row (Concluded ends drawn letters) (says.Accepted number) came count is e = (let wrong = sym is ∙ e in let bad : ⊥ = cc in absurd bad)
spent_early row (Concluded ends drawn letters) (says.Full rows bytes) came count is e = (let wrong = sym is ∙ e in let bad : ⊥ = cc in absurd bad)
spent_early row (Concluded ends drawn letters) (says.Taken number sub claim given path attempt) came count is e = (let wrong = sym is ∙ e in let bad : ⊥ = cc in absurd bad)
spent_early row (Concluded ends drawn letters) (says.Idle next) came count is e = (let wrong = sym is ∙ e in let bad : ⊥ = cc in absurd bad)
spent_early row (Concluded ends drawn letters) says.NotTaken came count is e = (let wrong = sym is ∙ e in let bad : ⊥ = cc in absurd bad)
spent_early row (Concluded ends drawn letters) says.Done came count is e = (let wrong = sym is ∙ e in let bad : ⊥ = cc in absurd bad)
spent_early row (Concluded ends drawn letters) (says.Dropped why) came count is e = (let wrong = sym is ∙ e in let bad : ⊥ = cc in absurd bad)
spent_early row (Concluded ends drawn letters) (says.Again at) came count is e = (let wrong = sym is ∙ e in let bad : ⊥ = cc in absurd bad)
spent_early row (Concluded ends drawn letters) (says.Dead number) came count is e = (let wrong = sym is ∙ e in let bad : ⊥ = cc in absurd bad)
spent_early row (Concluded ends drawn letters) (says.Counts owed done dropped dead) came count is e = (let wrong = sym is ∙ e in let bad : ⊥ = cc in absurd bad)
spent_early row (Concluded ends drawn letters) says.NoMemory came count is e = (let wrong = sym is ∙ e in let bad : ⊥ = cc in absurd bad)
spent_early row (Postponed refused) (says.Accepted number) came count is e = (let wrong = sym is ∙ e in let bad : ⊥ = cc in absurd bad)
spent_early row (Postponed refused) (says.Full rows bytes) came count is e = (let wrong = sym is ∙ e in let bad : ⊥ = cc in absurd bad)
spent_early row (Postponed refused) (says.Taken number sub claim given path attempt) came count is e = (let wrong = sym is ∙ e in let bad : ⊥ = cc in absurd bad)
spent_early row (Postponed refused) (says.Idle next) came count is e = (let wrong = sym is ∙ e in let bad : ⊥ = cc in absurd bad)
spent_early row (Postponed refused) says.NotTaken came count is e = (let wrong = sym is ∙ e in let bad : ⊥ = cc in absurd bad)
spent_early row (Postponed refused) says.Done came count is e = (let wrong = sym is ∙ e in let bad : ⊥ = cc in absurd bad)
spent_early row (Postponed refused) (says.Dropped why) came count is e = (let wrong = sym is ∙ e in let bad : ⊥ = cc in absurd bad)
spent_early row (Postponed refused) (says.Again at) came count is e = (let wrong = sym is ∙ e in let bad : ⊥ = cc in absurd bad)
spent_early row (Postponed refused) (says.Dead number) came count is e = (let wrong = sym is ∙ e in let bad : ⊥ = cc in absurd bad)
spent_early row (Postponed refused) (says.Counts owed done dropped dead) came count is e = (let wrong = sym is ∙ e in let bad : ⊥ = cc in absurd bad)
spent_early row (Postponed refused) says.NoMemory came count is e = (let wrong = sym is ∙ e in let bad : ⊥ = cc in absurd bad)
