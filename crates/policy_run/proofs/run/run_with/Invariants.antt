use Rattle.policy_run.specs.Effects.{clocked}
use Rattle.rand_core.specs.Stream.{next_u64}
use Rattle.side_world.specs.Moments.{Drawn}
use Rattle.policy_run.proofs.Trying.{Trying}
use Rattle.std.proofs.Common.{◌≡◌}
use Rattle.policy_run.proofs.run.run_with.Given as goal

abbrev pub invariant-loop : goal.invariant-loop
invariant-loop g l =
    (goal.iterator-loop g).can_next l.iterator' × (goal.iterator-loop g).is_finite l.iterator'
    × g.G.Guard.ready l.guard × g.P.Operation.ready l.op × (g.G.Guard.there l.guard ≡ g.G.Guard.there l.initial.guard)
    × Trying l.fn.policy (g.G.Guard.there l.initial.guard) (g.P.Operation.makes l.initial.op l.fn.limit) (λ xs. g.P.Operation.did l.initial.op xs l.op) (λ xs. g.G.Guard.held l.initial.guard xs l.guard) (clocked g.C.Clock l.initial.clock) (clocked g.C.Clock l.clock) (λ ws. Drawn next_u64 (g.R.Rng.stream l.initial.rng) ws (g.R.Rng.stream l.rng)) l.run
