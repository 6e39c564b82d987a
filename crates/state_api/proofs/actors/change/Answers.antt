use Rattle.std.proofs.Common.{sym, subst}
use Rattle.state_api.specs.Given.{Tells}
use Rattle.state_api.specs.Asked.{BodyAsks, changes_in}
use Rattle.std.specs.Prelude.{Err}
use Rattle.state_core.specs.declared.command.Cmd.{Cmd}
use Rattle.state_api.proofs.Bodies.{text_asks, fault_asks}
use Rattle.state_api.proofs.actors.change.Goals as goal

pub returns-in-Ok-clause-asks : goal.returns-in-Ok-clause-asks
returns-in-Ok-clause-asks c = text_asks (changes_in c.args.front.now) c.args.body.now c.in-Ok.doc c.root.result c.changes_of.result c.in-Ok.ensures.ok c.root.ensures.first c.root.ensures.node c.changes_of.ensures.gives

pub returns-in-Err-clause-asks : goal.returns-in-Err-clause-asks
returns-in-Err-clause-asks c = subst (λ e. Tells {A = Cmd} (Err e) (BodyAsks (changes_in c.args.front.now) c.args.body.now)) (sym c.fault_of.ensures) (fault_asks (changes_in c.args.front.now) c.args.body.now c.in-Err.error c.in-Err.ensures.bad c.in-Err.ensures.deep)
