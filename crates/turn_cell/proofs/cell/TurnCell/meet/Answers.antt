use Rattle.std.proofs.Common.{sym, ap, ◌∙◌, subst, arith}
use Rattle.turn_cell.specs.Sitting.{Meets}
use Rattle.turn_cell.specs.Play.{Rests, sitting}
use Rattle.turn_cell.proofs.Joins.{joins}
use Rattle.turn_cell.proofs.Meets.{meets}
use Rattle.turn_cell.proofs.Rested.{meet_rests, meet_told}
use Rattle.turn_cell.proofs.cell.TurnCell.meet.Goals as goal

pub join_seat-requires : goal.join_seat-requires
join_seat-requires g c = let cell = sym (ap (λ z. z.table) c.self.view_is) in (
  ap (λ z. z.table) c.seat.view_is ∙ (c.requires.seat.0 ∙ cell),
  ap (λ z. z.table) c.other.view_is ∙ (c.requires.other.0.0 ∙ cell),
  c.other.invariant.free.bare,
  omega (arith, c.self.invariant.0),
  joins g.O.Object c.self.inside.store.shared.key.value _ _ _ _ c.seat.invariant.free.idle (ap (λ z. z.is_root) c.seat.view_is ∙ c.requires.root) c.seat.invariant.free.done c.other.invariant.free.idle c.other.invariant.free.done,
)

pub load-requires : goal.load-requires
load-requires g c = (
  c.join_seat.ensures.0 ∙ (ap (λ z. z.table) c.seat.view_is ∙ (c.requires.seat.0 ∙ sym (ap (λ z. z.table) c.self.view_is))),
  omega (arith, c.self.invariant.0),
  meets g.O.Object c.self.inside.store.shared.key.value _ _ _ (ap (λ m. m.0.stage) c.join_seat.ensures.2 ∙ c.seat.invariant.free.idle),
)

pub invariant_of-seat : goal.invariant_of-seat
invariant_of-seat g c = subst (λ n. Rests g.O.Object c.load.new.seat c.seat.inside.made n) (sym c.either_count-seat-inside.ensures) (meet_rests g.O.Object c.seat.inside.token c.other.inside.token c.join_seat.new.seat c.load.new.seat c.seat.inside.made c.seat.inside.count c.seat.invariant c.join_seat.ensures.2 c.load.ensures.2 c.args.self.now.first (ap (λ z. z.first) c.seat.view_is ∙ c.requires.seat.1) c.other.inside.made c.other.inside.count c.other.invariant)

pub returns : goal.returns
returns g c = let told = meet_told g.O.Object c.seat.inside.token c.other.inside.token c.join_seat.new.seat c.load.new.seat c.seat.inside.made c.seat.inside.count c.seat.invariant c.join_seat.ensures.2 c.load.ensures.2 c.args.self.now.first
    (ap (λ z. z.first) c.seat.view_is ∙ c.requires.seat.1) (ap (λ z. z.is_root) c.seat.view_is ∙ c.requires.root) (c.load.ensures.0 ∙ c.join_seat.ensures.0) in
    subst (λ z. Meets g.O.Object c.args.self.now.first c.args.seat.now z (sitting c.load.new.seat)) c.other.view_is (subst (λ z. Meets g.O.Object c.args.self.now.first z (sitting c.other.inside.token) (sitting c.load.new.seat)) c.seat.view_is told)
