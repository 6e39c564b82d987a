use Rattle.std.proofs.Common.{◌≤◌, ℕ, min, max, refl, arith}
use Rattle.retry_core.proofs.laws.waits_are_bounded.Goals as goal

at_most : (most wait : ℕ) → min most (max 1 wait) ≤ most
at_most most wait = omega arith

at_least : (most wait : ℕ) → min 1 most ≤ min most (max 1 wait)
at_least most wait = omega arith

pub returns : goal.returns
returns c = record { constant = λ duration words word. refl; most = λ most words word. at_most most _; least = λ most words word. at_least most _ }
