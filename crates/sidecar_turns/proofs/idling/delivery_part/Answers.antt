use Rattle.std.proofs.Common.{◌∙◌, sym}
use Rattle.sidecar_objects.specs.Composed.{does_as}
use Rattle.sidecar_turns.specs.Idling.{DeliveryPart}
use Rattle.sidecar_turns.specs.Delivering.{Delivers}
use Rattle.sidecar_turns.proofs.Parts.{delivery_spent}
use Rattle.sidecar_turns.proofs.idling.delivery_part.Goals as goal

pub returns-clause-does : goal.returns-clause-does
returns-clause-does g c = does_as _ _ _ _ (λ events. Delivers c.args.duties.now.brokers.now c.args.duties.now.subs.now events c.deliver.result) (λ events. DeliveryPart c.args.duties.now.brokers.now c.args.duties.now.subs.now events c.of_delivery.result)
    (λ events delivers. (c.deliver.result, delivers, c.of_delivery.ensures)) c.deliver.ensures.does

pub returns-clause-shows : goal.returns-clause-shows
returns-clause-shows g c = λ count is. c.deliver.ensures.shows count (delivery_spent c.deliver.result count (sym c.of_delivery.ensures ∙ is))
