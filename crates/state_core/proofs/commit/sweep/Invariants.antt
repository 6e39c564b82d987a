use Rattle.std.proofs.Common.{option_map}
use Rattle.state_core.proofs.Sweeps.{Swept}
use Rattle.state_core.proofs.commit.sweep.Given as goal

abbrev pub invariant-loop : goal.invariant-loop
invariant-loop g l = Swept (g.K.Keeper.rows l.keeper) l.moment l.counter (option_map (λ key. key.now) l.after) l.changes.items
