use Rattle.std.proofs.Common.{◌≡◌, ◌<◌, ℕ, get_or}
use Rattle.keeper_core.proofs.failing.FailingCommits.is_next.Given as goal

-- no place so far is the next commit
abbrev pub invariant-loop-i : goal.invariant-loop-i
invariant-loop-i l = (k : ℕ) → k < l.i → get_or l.self.places k 0 ≡ l.self.commits → ⊥
