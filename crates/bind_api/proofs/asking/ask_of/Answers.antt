use Rattle.std.proofs.Common.{sym, subst}
use Rattle.std.specs.Prelude.{Err}
use Rattle.bind_api.specs.declared.asking.Ask.{Ask}
use Rattle.bind_api.specs.Given.{Tells}
use Rattle.bind_api.specs.Asked.{BodyAsks, ask_in}
use Rattle.bind_api.proofs.Bodies.{fault_asks, text_asks}
use Rattle.bind_api.proofs.asking.ask_of.Goals as goal

pub returns-in-Ok : goal.returns-in-Ok
returns-in-Ok c = text_asks ask_in c.args.body.now c.in-Ok.doc c.root.result c.ask_at.result c.in-Ok.ensures.ok c.root.ensures.first c.root.ensures.node c.ask_at.ensures

pub returns-in-Err : goal.returns-in-Err
returns-in-Err c = subst (λ e. Tells {A = Ask} (Err e) (BodyAsks ask_in c.args.body.now)) (sym c.wrong_of.ensures) (fault_asks ask_in c.args.body.now c.in-Err.error c.in-Err.ensures.bad c.in-Err.ensures.deep)
