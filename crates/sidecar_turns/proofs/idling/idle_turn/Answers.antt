use Rattle.std.proofs.Common.{◌∙◌, inl, inr, sym}
use Rattle.std.proofs.lemmas.Bool.{false≢true}
use Rattle.sidecar_objects.specs.Composed.{pass_stays}
use Rattle.sidecar_turns.specs.Idling.{DeliveryPart, TickPart}
use Rattle.sidecar_turns.proofs.Parts.{alone_done, both_done, second_spent}
use Rattle.sidecar_turns.proofs.idling.idle_turn.Goals as goal

pub delivery_part-delivered-requires-clause-pass : goal.delivery_part-delivered-requires-clause-pass
delivery_part-delivered-requires-clause-pass g c = pass_stays _ _ _ _ _ c.tick_part-ticked.ensures.does.went c.requires.pass

pub returns-then-is_end-clause-does : goal.returns-then-is_end-clause-does
returns-then-is_end-clause-does g c = alone_done _ _ (TickPart c.args.duties.now.crons.now) (DeliveryPart c.args.duties.now.brokers.now c.args.duties.now.subs.now) _ _ c.tick_part-ticked.result c.tick_part-ticked.ensures.does (c.is_end.ensures.0 c.if-is_end.true)

pub returns-then-is_end-clause-shows : goal.returns-then-is_end-clause-shows
returns-then-is_end-clause-shows g c = λ count is. inl (c.tick_part-ticked.ensures.shows count is)

pub returns-clause-does : goal.returns-clause-does
returns-clause-does g c = both_done _ _ (TickPart c.args.duties.now.crons.now) (DeliveryPart c.args.duties.now.brokers.now c.args.duties.now.subs.now) _ _ _ c.tick_part-ticked.result c.delivery_part-delivered.result c.both.result c.tick_part-ticked.ensures.does
    (λ ends. absurd (false≢true (sym c.if-is_end.false ∙ c.is_end.ensures.1 ends))) c.delivery_part-delivered.ensures.does c.both.ensures

pub returns-clause-shows : goal.returns-clause-shows
returns-clause-shows g c = λ count is. inr (c.delivery_part-delivered.ensures.shows count
    (second_spent c.tick_part-ticked.result c.delivery_part-delivered.result count (λ ends. absurd (false≢true (sym c.if-is_end.false ∙ c.is_end.ensures.1 ends))) (sym c.both.ensures ∙ is)))
