-- The entries of nodes, and what a failing attempt makes of a row.
use Rattle.std.specs.Prelude.{◌≡◌, ◌+◌, ◌-◌, ◌^◌, ◌≤◌, ℕ, min, List, [], ◌∷◌, map, Option, Some, None, Box}
use Rattle.std.specs.declared.alloc.Global.{Global}
use Rattle.retry_core.specs.declared.run.Next.TheVariants as next
use Rattle.retry_core.specs.RetryRun.{Run, decided_by, run_by}
use Rattle.ledger_core.specs.declared.settling.Outcome.{Outcome}
use Rattle.ledger_core.specs.declared.settling.Outcome.TheVariants.{Wait, UsedUp, Unplanned}
use Rattle.ledger_core.specs.declared.tree.Node.{Node}
use Rattle.ledger_core.specs.declared.tree.StoredRow.{StoredRow}
use Rattle.ledger_core.specs.Row.{Entry}
use Rattle.ledger_core.specs.Tree.{entry_of}

abbrev pub entries_in : List (Box Node Global) → List Entry
entries_in nodes = map (λ node. entry_of node.value) nodes

abbrev pub nodes_of : Option (Box Node Global) → List Entry
nodes_of None = []
nodes_of (Some node) = entry_of node.value ∷ []

-- what a failing attempt makes of a row: as its run decides, which then counts a further attempt
abbrev pub IsOutcome : StoredRow → StoredRow → ℕ → Outcome → Type 0
IsOutcome old new word (Wait ms) = (run : Run) × (old.run ≡ Some run) × (decided_by run word ≡ next.Wait ms) × (ms ≤ 31536000000) × (new ≡ record old { run = Some (run_by run word); attempt = min (old.attempt + 1) (2 ^ 64 - 1) })
IsOutcome old new word UsedUp = (run : Run) × (old.run ≡ Some run) × ((attempts : ℕ) × (decided_by run word ≡ next.GiveUp attempts)) × (new ≡ old)
IsOutcome old new word Unplanned = (old.run ≡ None) × (new ≡ old)
