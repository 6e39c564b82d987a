use Rattle.std.specs.Prelude.{ℕ, List}
use Rattle.std.proofs.Common.{◌≡◌, ◌≤◌, length, map}
use Rattle.std.specs.Vec.{vec_capacity}
use Rattle.side_world.specs.Told.{Tells}
use Rattle.sidecar_cli.proofs.serving.draw_all.Given as goal

abbrev pub invariant-loop : goal.invariant-loop
invariant-loop g l = record {
  seeds : List ℕ;
  count : length seeds ≡ l.counter;
  wide : length l.rngs.items ≡ l.counter;
  streams : map g.R.Rng.stream l.rngs.items ≡ map (λ (n : ℕ). g.R.Rng.stream (g.R.SeedableRng.of_seed (g.R.SeedableRng.seed_of_u64 n))) seeds;
  told : Tells (g.O.Outside.numbers l.initial.outside) (g.O.Outside.numbers l.outside) seeds;
  disks : g.O.Outside.disks l.outside ≡ g.O.Outside.disks l.initial.outside;
  calls : g.O.Outside.calls l.outside ≡ g.O.Outside.calls l.initial.outside;
  backs : g.O.Outside.backs l.outside ≡ g.O.Outside.backs l.initial.outside;
  faults : g.O.Outside.faults l.outside ≡ g.O.Outside.faults l.initial.outside;
  room : l.fn.count ≤ vec_capacity l.rngs;
}
