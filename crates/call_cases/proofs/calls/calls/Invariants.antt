use Rattle.std.proofs.Common.{◌≡◌, is_some}
use Rattle.call_cases.proofs.calls.calls.Given as goal

abbrev pub invariant-loop-section : goal.invariant-loop-section
invariant-loop-section g l = (g.G.Guard.there l.guard ≡ is_some l.fn.common.bound.breaker) × g.G.Guard.ready l.guard
