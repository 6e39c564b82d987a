-- What a reply to a taking means.
use Rattle.std.proofs.Common.{◌≡◌, ◌<◌, refl, sym, subst, ◌∙◌, ℕ, List, length}
use Rattle.ledger_core.specs.declared.plan.Plan.{Plan}
use Rattle.ledger_core.specs.declared.command.LedgerCmd.TheVariants.{Take}
use Rattle.ledger_core.specs.declared.reply.LedgerReply.{LedgerReply}
use Rattle.ledger_core.specs.declared.reply.LedgerReply.TheVariants as says
use Rattle.policy_run.specs.Event.{Event}
use Rattle.delivery_turn.specs.declared.row.Row.{Row}
use Rattle.delivery_turn.specs.declared.taking.Taking.{Taking}
use Rattle.delivery_turn.specs.declared.taking.Taking.TheVariants as taking
use Rattle.delivery_turn.specs.declared.ending.Turn.TheVariants as turn
use Rattle.delivery_turn.specs.Settling.{Own, Answered}
use Rattle.delivery_turn.specs.Stepping.{IsPlanned, IsTakeReply}
use Rattle.delivery_turn.specs.Turning.{TakesBy, idle, lacks, taking_of}

pub takes_by : (reply : LedgerReply) (came : Taking) (events : List (Event Own)) → IsTakeReply reply → came ≡ taking_of reply → Answered Take reply events → TakesBy came events
takes_by (says.Taken number sub claim event path attempt) came events one is answered = subst (λ t. TakesBy t events) (sym is) (attempt, answered)
takes_by (says.Idle next) came events one is answered = subst (λ t. TakesBy t events) (sym is) (idle next answered refl)
takes_by says.NoMemory came events one is answered = subst (λ t. TakesBy t events) (sym is) (lacks answered refl)
takes_by (says.Accepted number) came events one is answered = absurd one
takes_by (says.Full rows bytes) came events one is answered = absurd one
takes_by says.NotTaken came events one is answered = absurd one
takes_by says.Done came events one is answered = absurd one
takes_by (says.Dropped why) came events one is answered = absurd one
takes_by (says.Again at) came events one is answered = absurd one
takes_by (says.Dead number) came events one is answered = absurd one
takes_by (says.Counts owed done dropped dead) came events one is answered = absurd one

-- the subscription of a row
abbrev sub_of : ℕ → Taking → ℕ
sub_of other (taking.Row row) = row.sub
sub_of other (taking.Ended came) = other

pub row_planned : (plans : List Plan) (reply : LedgerReply) (came : Taking) → IsTakeReply reply → came ≡ taking_of reply → IsPlanned plans reply → (row : Row) → came ≡ taking.Row row → row.sub < length plans
row_planned plans (says.Taken number sub claim event path attempt) came one is planned row e = subst (λ s. s < length plans) (λ i. sub_of sub ((sym is ∙ e) i)) planned
row_planned plans (says.Idle next) came one is planned row e = (let wrong = sym is ∙ e in let bad : ⊥ = cc in absurd bad)
row_planned plans says.NoMemory came one is planned row e = (let wrong = sym is ∙ e in let bad : ⊥ = cc in absurd bad)
row_planned plans (says.Accepted number) came one is planned row e = absurd one
row_planned plans (says.Full rows bytes) came one is planned row e = absurd one
row_planned plans says.NotTaken came one is planned row e = absurd one
row_planned plans says.Done came one is planned row e = absurd one
row_planned plans (says.Dropped why) came one is planned row e = absurd one
row_planned plans (says.Again at) came one is planned row e = absurd one
row_planned plans (says.Dead number) came one is planned row e = absurd one
row_planned plans (says.Counts owed done dropped dead) came one is planned row e = absurd one

-- a reply is no exhausted cell
pub reply_unspent : (reply : LedgerReply) (came : Taking) (count : ℕ) → came ≡ taking_of reply → came ≡ taking.Ended (turn.Exhausted count) → ⊥
reply_unspent (says.Taken number sub claim event path attempt) came count is e = (let wrong = sym is ∙ e in let bad : ⊥ = cc in bad)
reply_unspent (says.Idle next) came count is e = (let wrong = sym is ∙ e in let bad : ⊥ = cc in bad)
reply_unspent says.NoMemory came count is e = (let wrong = sym is ∙ e in let bad : ⊥ = cc in bad)
reply_unspent (says.Accepted number) came count is e = (let wrong = sym is ∙ e in let bad : ⊥ = cc in bad)
reply_unspent (says.Full rows bytes) came count is e = (let wrong = sym is ∙ e in let bad : ⊥ = cc in bad)
reply_unspent says.NotTaken came count is e = (let wrong = sym is ∙ e in let bad : ⊥ = cc in bad)
reply_unspent says.Done came count is e = (let wrong = sym is ∙ e in let bad : ⊥ = cc in bad)
reply_unspent (says.Dropped why) came count is e = (let wrong = sym is ∙ e in let bad : ⊥ = cc in bad)
reply_unspent (says.Again at) came count is e = (let wrong = sym is ∙ e in let bad : ⊥ = cc in bad)
reply_unspent (says.Dead number) came count is e = (let wrong = sym is ∙ e in let bad : ⊥ = cc in bad)
reply_unspent (says.Counts owed done dropped dead) came count is e = (let wrong = sym is ∙ e in let bad : ⊥ = cc in bad)
