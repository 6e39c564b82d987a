use Rattle.std.proofs.Common.{sym, ap, ◌∙◌, arith}
use Rattle.turn_cell.proofs.Splits.{splits}
use Rattle.turn_cell.proofs.Rested.{parent_rests, child_rests, split_sound}
use Rattle.turn_cell.proofs.cell.TurnCell.split.Goals as goal

pub split_seat-token-requires : goal.split_seat-token-requires
split_seat-token-requires g c = let seen = c.seat.view_is in (
  ap (λ z. z.table) seen ∙ (c.requires.seat.0 ∙ sym (ap (λ z. z.table) c.self.view_is)),
  omega (arith, c.self.invariant.0),
  splits g.O.Object c.self.inside.store.shared.key.value _ _ c.seat.invariant.free.idle (ap (λ z. z.is_root) seen ∙ c.requires.root) (omega (arith, ap (λ z. z.made) seen, c.requires.room)),
)

pub invariant_of-seat : goal.invariant_of-seat
invariant_of-seat g c = parent_rests g.O.Object c.seat.inside.token c.split_seat-token.new.seat c.seat.inside.made c.seat.inside.count c.seat.invariant (ap (λ z. z.is_root) c.seat.view_is ∙ c.requires.root) c.split_seat-token.ensures.2

pub invariant_of-result : goal.invariant_of-result
invariant_of-result g c = child_rests g.O.Object c.seat.inside.token c.split_seat-token.result c.seat.inside.made c.seat.inside.count c.seat.invariant (ap (λ z. z.is_root) c.seat.view_is ∙ c.requires.root) c.split_seat-token.ensures.4

pub returns-clause-sound : goal.returns-clause-sound
returns-clause-sound g c = let first = c.args.self.now.first in split_sound g.O.Object first c.seat.inside.token c.split_seat-token.new.seat c.split_seat-token.result _ (ap (λ z. z.is_root) c.seat.view_is ∙ c.requires.root)
    (c.seat.invariant.sound first (ap (λ z. z.first) c.seat.view_is ∙ c.requires.seat.1)) c.split_seat-token.ensures.2 c.split_seat-token.ensures.4
