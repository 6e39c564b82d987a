-- The events of a turn by their kinds, and how many there are of each.
use Rattle.std.specs.Prelude.{◌≡◌, ◌≢◌, ⊤, ℕ, ◌+◌, Bool, true, false, List, [], ◌∷◌, flat_map}
use Rattle.breaker_core.specs.declared.command.BreakerCmd.{BreakerCmd}
use Rattle.breaker_core.specs.declared.command.BreakerCmd.TheVariants.{Admit, Report}
use Rattle.breaker_core.specs.declared.command.BreakerReply.{BreakerReply}
use Rattle.breaker_core.specs.declared.command.BreakerReply.TheVariants.{Admitted, Opened, TooMany, Counted, Stale}
use Rattle.ledger_core.specs.declared.command.Finish.{Finish}
use Rattle.ledger_core.specs.declared.command.Finish.TheVariants.{Success, Retry, Drop, Later}
use Rattle.ledger_core.specs.declared.command.LedgerCmd.{LedgerCmd}
use Rattle.ledger_core.specs.declared.command.LedgerCmd.TheVariants.{Accept, Take, Settle, Counts}
use Rattle.ledger_core.specs.declared.reply.LedgerReply.{LedgerReply}
use Rattle.ledger_core.specs.declared.reply.LedgerReply.TheVariants.{Taken}
use Rattle.ledger_core.specs.Fits.{Fits}
use Rattle.policy_run.specs.Event.{Event, own, guarded, word, moment, pause}
use Rattle.delivery_turn.specs.declared.ending.Turn.{Turn}
use Rattle.delivery_turn.specs.declared.ending.Turn.TheVariants.{Exhausted}
use Rattle.delivery_turn.specs.Settling.{Own, entered, asked}

pub data Kind : Type 0 where
  -- a row was taken, or none was
  taking : Kind
  idling : Kind
  settling : Finish → Kind
  call : Kind
  -- the breaker let a delivery through, refused one, or was told of one
  admission : Kind
  refusal : Kind
  report : Kind
  draw : Kind
  other : Kind

abbrev pub taking_kind : LedgerReply → Kind
taking_kind (Taken number sub claim event path attempt) = taking
taking_kind reply = idling

abbrev pub ledger_kind : LedgerCmd → LedgerReply → Kind
ledger_kind (Take now) reply = taking_kind reply
ledger_kind (Settle number sub claim finish now drawn dead) reply = settling finish
ledger_kind (Accept event aims now) reply = other
ledger_kind Counts reply = other

abbrev pub answer_kind : BreakerReply → Kind
answer_kind (Admitted generation half) = admission
answer_kind (Opened until) = refusal
answer_kind (TooMany out) = refusal
answer_kind Counted = other
answer_kind (Stale current) = other

abbrev pub breaker_kind : BreakerCmd → BreakerReply → Kind
breaker_kind (Admit now) reply = answer_kind reply
breaker_kind (Report generation now good) reply = report

-- a moment that was read is of no kind
abbrev pub kinds_in : Event Own → List Kind
kinds_in (own (entered step)) = ledger_kind step.cmd step.reply ∷ []
kinds_in (own (asked made)) = call ∷ []
kinds_in (guarded step) = breaker_kind step.cmd step.reply ∷ []
kinds_in (word w) = draw ∷ []
kinds_in (moment m) = []
kinds_in (pause ms) = other ∷ []

abbrev pub kinds_of : List (Event Own) → List Kind
kinds_of events = flat_map kinds_in events

-- ---- how many

abbrev pub one_if : Bool → ℕ
one_if true = 1
one_if false = 0

abbrev pub so_many : (Kind → Bool) → List Kind → ℕ
so_many is [] = 0
so_many is (kind ∷ kinds) = one_if (is kind) + so_many is kinds

abbrev pub is_settling : Kind → Bool
is_settling (settling finish) = true
is_settling taking = false
is_settling idling = false
is_settling call = false
is_settling admission = false
is_settling refusal = false
is_settling report = false
is_settling draw = false
is_settling other = false

abbrev pub is_again : Finish → Bool
is_again Retry = true
is_again Success = false
is_again Drop = false
is_again (Later at) = false

-- a settling with `Retry`
abbrev pub is_retry : Kind → Bool
is_retry (settling finish) = is_again finish
is_retry taking = false
is_retry idling = false
is_retry call = false
is_retry admission = false
is_retry refusal = false
is_retry report = false
is_retry draw = false
is_retry other = false

abbrev pub is_call : Kind → Bool
is_call call = true
is_call (settling finish) = false
is_call taking = false
is_call idling = false
is_call admission = false
is_call refusal = false
is_call report = false
is_call draw = false
is_call other = false

abbrev pub is_refusal : Kind → Bool
is_refusal refusal = true
is_refusal (settling finish) = false
is_refusal taking = false
is_refusal idling = false
is_refusal call = false
is_refusal admission = false
is_refusal report = false
is_refusal draw = false
is_refusal other = false

abbrev pub is_report : Kind → Bool
is_report report = true
is_report (settling finish) = false
is_report taking = false
is_report idling = false
is_report call = false
is_report admission = false
is_report refusal = false
is_report draw = false
is_report other = false

abbrev pub is_draw : Kind → Bool
is_draw draw = true
is_draw (settling finish) = false
is_draw taking = false
is_draw idling = false
is_draw call = false
is_draw admission = false
is_draw refusal = false
is_draw report = false
is_draw other = false

-- ---- what laws say of them

-- the first of them is that a row was taken, or else the only one that none was
abbrev pub BeginsByTaking : List Kind → Type 0
BeginsByTaking [] = ⊤
BeginsByTaking (taking ∷ kinds) = ⊤
BeginsByTaking (idling ∷ kinds) = kinds ≡ []
BeginsByTaking (kind ∷ kinds) = ⊥

-- no cell was exhausted
abbrev pub IsUnspent : Turn → Type 0
IsUnspent turn = (count : ℕ) → turn ≢ Exhausted count

-- each answer of the ledger is one that fits its command
abbrev pub AllFit : List (Event Own) → Type 0
AllFit [] = ⊤
AllFit (own (entered step) ∷ events) = Fits step.cmd step.reply × AllFit events
AllFit (own (asked made) ∷ events) = AllFit events
AllFit (guarded step ∷ events) = AllFit events
AllFit (word w ∷ events) = AllFit events
AllFit (moment m ∷ events) = AllFit events
AllFit (pause ms ∷ events) = AllFit events
