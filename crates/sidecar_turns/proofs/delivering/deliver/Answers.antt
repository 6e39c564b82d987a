use Rattle.std.proofs.Common.{◌∙◌, [], None, refl, sym, subst}
use Rattle.delivery_turn.specs.declared.ending.Turn.TheVariants.{Idle}
use Rattle.sidecar_objects.specs.Composed.{does_nothing}
use Rattle.sidecar_turns.specs.Delivering.{Delivers, DeliversToApp}
use Rattle.sidecar_turns.proofs.delivering.deliver.Goals as goal

pub returns-in-None-clause-does : goal.returns-in-None-clause-does
returns-in-None-clause-does g c = does_nothing _ _ _ (λ events. Delivers c.args.brokers.now c.args.subs.now events (Idle None))
    (subst (λ port. DeliversToApp port c.args.brokers.now.inbound c.args.subs.now [] (Idle None)) (sym c.in-None.is ∙ c.app_port.ensures) (refl, refl))
