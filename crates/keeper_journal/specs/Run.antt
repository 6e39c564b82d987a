-- A run of commits of one keeper, and what a crash at some moment of it leaves.
use Rattle.std.specs.Prelude.{ℕ, List, [], ◌∷◌, ◌++◌, Option, None}
use Rattle.std.proofs.Common.{subst}
use Rattle.side_world.specs.declared.disk.Disk.{Ghosts}
use Rattle.keeper_core.specs.declared.changes.Changes.{Changes}
use Rattle.disk_journal.specs.AnyRun as any
use Rattle.disk_journal.specs.AnyRun.{OfRun}
use Rattle.disk_journal.specs.OneMore.{AtMostOneMore}
use Rattle.keeper_journal.specs.History.{IsHistory}
use Rattle.keeper_journal.specs.JournalKeeper.{disk_in}
use Rattle.keeper_journal.specs.Kept.{Kept}
use Rattle.keeper_journal.specs.declared.journal_keeper.JournalKeeper.{JournalKeeper}

-- a file of these commits, and at most one more
abbrev pub HasAtMostOneMore : List Changes → List ℕ → Type 0
HasAtMostOneMore commits bytes = AtMostOneMore (IsHistory bytes) commits

module _ {D : Type 0} (disking : Ghosts D) where
  -- A call of a keeper with this answer: it then keeps what it kept, and what was acknowledged. A crash at any moment of the call leaves what
  -- it kept, and at most one more.
  abbrev pub IsCall : JournalKeeper D disking → JournalKeeper D disking → Option Changes → Type 0
  IsCall = any.IsCall disking disk_in (Kept disking) IsHistory

  -- calls with these answers lead from one state of a keeper to another
  abbrev pub Leads : JournalKeeper D disking → List (Option Changes) → JournalKeeper D disking → Type 0
  Leads = any.Leads disking disk_in (Kept disking) IsHistory

  -- a keeper keeps these commits, then those that the first of some calls acknowledged, then at most one more
  abbrev pub KeepsOfRun : JournalKeeper D disking → List Changes → List (Option Changes) → Type 0
  KeepsOfRun keeper commits answers = OfRun (λ all. Kept disking keeper all None) commits answers

  -- between these calls and those behind them, and at each moment of the latter, a crash leaves what was kept, what was acknowledged, and at most one more
  abbrev pub LeavesWhatWasMade : JournalKeeper D disking → JournalKeeper D disking → JournalKeeper D disking → List (Option Changes) → List (Option Changes) → List Changes → Option Changes → Type 0
  LeavesWhatWasMade = any.LeavesWhatWasMade disking disk_in (Kept disking) IsHistory

  -- this is so of each run, where the disk tells what a crash in it may have left
  abbrev pub AfterACrash : {E : Type 0} → Ghosts E → E → (List Changes → List (Option Changes) → List (Option Changes) → Type 0) → Type 0
  AfterACrash other disk Then = any.AfterACrash disking disk_in (Kept disking) IsHistory other disk Then

-- calls that go on where others have led
pub leads_on : {D : Type 0} {disking : Ghosts D} (first mid last : JournalKeeper D disking) (before behind : List (Option Changes)) → Leads disking first before mid → Leads disking mid behind last → Leads disking first (before ++ behind) last
leads_on {D} {disking} first mid last [] behind same goes = subst (λ (k : JournalKeeper D disking). Leads disking k behind last) same goes
leads_on first mid last (answer ∷ before) behind led goes = (led.0, led.1, leads_on led.0 mid last before behind led.2 goes)
