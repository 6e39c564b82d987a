use Rattle.std.proofs.Common.{subst, arith}
use Rattle.keeper_journal.specs.Reading.{Gives}
use Rattle.keeper_journal.proofs.Bodies.{is_found, body_again}
use Rattle.keeper_journal.proofs.decoding.decode.Goals as goal

pub returns-clause-found : goal.returns-clause-found
returns-clause-found c = is_found c.args.bytes.now c.read_body.result (λ i. omega (arith, c.type_inv.bytes i)) c.read_body.ensures

pub returns-clause-only : goal.returns-clause-only
returns-clause-only c = λ changes is. subst (λ read. Gives (λ found. found) c.read_body.result read) (body_again c.args.bytes.now changes is) c.read_body.ensures
