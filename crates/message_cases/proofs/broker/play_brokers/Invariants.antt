use Rattle.std.proofs.Common.{◌≡◌, is_some}
use Rattle.message_cases.proofs.broker.play_brokers.Given as goal

abbrev pub invariant-loop-place : goal.invariant-loop-place
invariant-loop-place g l = (g.G.Guard.there l.guard ≡ is_some l.fn.common.bound.breaker) × g.G.Guard.ready l.guard
