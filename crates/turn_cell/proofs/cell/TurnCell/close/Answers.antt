use Rattle.std.proofs.Common.{ap, ◌∙◌, subst}
use Rattle.turn_cell.proofs.Rested.{close_some, close_stands}
use Rattle.turn_cell.proofs.cell.TurnCell.close.Goals as goal

pub unwrap-object-requires : goal.unwrap-object-requires
unwrap-object-requires g c = close_some g.O.Object c.self.inside.store.shared.key.value c.seat.inside.token c.seat.inside.made c.seat.inside.count c.seat.invariant (ap (λ z. z.is_root) c.seat.view_is ∙ c.requires.alone.0, ap (λ z. z.out) c.seat.view_is ∙ c.requires.alone.1) _ _
    c.close_with-closed.ensures.values.2 c.take.result c.take.ensures.value

pub returns : goal.returns
returns g c = let stands = close_stands g.O.Object c.self.inside.store.shared.key.value c.seat.inside.token c.seat.inside.made c.seat.inside.count c.seat.invariant (ap (λ z. z.is_root) c.seat.view_is ∙ c.requires.alone.0, ap (λ z. z.out) c.seat.view_is ∙ c.requires.alone.1) _ _
    c.close_with-closed.ensures.values.2 c.take.result c.take.ensures.value c.unwrap-object.result c.unwrap-object.ensures in
    subst (λ l. g.O.Object.stands c.args.self.first l c.unwrap-object.result) (ap (λ z. z.seen) c.seat.view_is)
    (subst (λ f. g.O.Object.stands f c.seat.inside.token.me.0.seen c.unwrap-object.result) (ap (λ z. z.first) c.self.view_is) stands)
