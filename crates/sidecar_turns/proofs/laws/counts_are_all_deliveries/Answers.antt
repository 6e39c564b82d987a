use Rattle.ledger_core.specs.Ledger.{plans_of}
use Rattle.sidecar_objects.specs.Kind.{ledgers}
use Rattle.sidecar_turns.proofs.Once.{counts_are_all}
use Rattle.sidecar_turns.proofs.laws.counts_are_all_deliveries.Goals as goal

pub returns : goal.returns
returns g c cells seats sound place cell seat at there = counts_are_all (plans_of cell.first) seat.seen c.the_counts_are_all_pairs.ensures ((sound.each ledgers).each place cell seat at there).legal.each
