-- The words of a generator that is made from a number.
use Rattle.std.specs.Prelude.{ℕ}
use Rattle.rand_core.specs.Stream.{Stream}
use Rattle.rand_core.specs.declared.Rng.{Ghosts as Draws}
use Rattle.rand_core.specs.declared.seedable_rng.SeedableRng.{Ghosts as Seeds}

abbrev pub words_from : {R S : Type 0} → Draws R → Seeds R S → ℕ → Stream
words_from draws seeds number = draws.stream (seeds.of_seed (seeds.seed_of_u64 number))
