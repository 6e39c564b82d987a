use Rattle.std.proofs.Common.{refl, ap, max, ◌∙◌}
use Rattle.state_core.proofs.Steps.{stepped}
use Rattle.state_core.proofs.store.StoreObject.apply.Goals as goal

pub returns-clause-step : goal.returns-clause-step
returns-clause-step g c = λ first history seat stands taken.
    stepped g.K.Keeper g.met.K.Keeper.goes_on first history c.args.self.now _ seat c.args.cmd.now c.answered-reply.result c.max-now.result stands c.answered-reply.ensures
    (c.max-now.ensures ∙ ap (max c.args.self.now.latest) c.moment_of.ensures.moment) refl refl
