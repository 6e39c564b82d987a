use Rattle.ledger_core.specs.Ledger.{plans_of}
use Rattle.sidecar_objects.specs.Kind.{ledgers}
use Rattle.sidecar_turns.proofs.Once.{accepted_have_one, messages_have_one}
use Rattle.sidecar_turns.proofs.laws.each_delivery_has_one_status.Goals as goal

pub returns-clause-accepted : goal.returns-clause-accepted
returns-clause-accepted g c cells seats sound place cell seat at there = accepted_have_one (plans_of cell.first) seat.seen ((sound.each ledgers).each place cell seat at there).legal.each

pub returns-clause-messages : goal.returns-clause-messages
returns-clause-messages g c cells seats sound place cell seat at there = messages_have_one (plans_of cell.first) seat.seen ((sound.each ledgers).each place cell seat at there).legal.each
