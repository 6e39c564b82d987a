use Rattle.std.proofs.Common.{◌∙◌, [], None, refl, sym, subst}
use Rattle.sidecar_objects.specs.Composed.{does_nothing}
use Rattle.sidecar_turns.specs.declared.ticking.TickTurn.TheVariants.{Idle}
use Rattle.sidecar_turns.specs.Ticking.{Ticks, TicksTo}
use Rattle.sidecar_turns.proofs.ticking.tick.Goals as goal

pub returns-in-None-clause-does : goal.returns-in-None-clause-does
returns-in-None-clause-does g c = does_nothing _ _ _ (λ events. Ticks c.args.crons.now events (Idle None))
    (subst (λ port. TicksTo port c.args.crons.now.crons [] (Idle None)) (sym c.in-None.is ∙ c.app_port.ensures) (refl, refl))
