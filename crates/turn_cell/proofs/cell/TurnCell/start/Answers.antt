use Rattle.std.proofs.Common.{sym, ap, ◌∙◌, subst, [], ◌∷◌, ◌++◌, Some}
use Rattle.atomic_table.specs.Table.{opening}
use Rattle.turn_cell.specs.Play.{opening_view}
use Rattle.turn_cell.specs.Rule.{laid, Rule}
use Rattle.turn_cell.proofs.Ends.{opens}
use Rattle.turn_cell.proofs.Rested.{start_rests}
use Rattle.turn_cell.proofs.cell.TurnCell.start.Goals as goal

pub new-requires : goal.new-requires
new-requires g c = let first = c.args.first in let items = c.in_default.ensures.items ∙ ap (λ l. l ++ Some first ∷ []) c.in_ok-slots.ensures.items in
    subst (λ k. Rule g.O.Object k (opening (laid 0 0) c.push.new.self.items (opening_view k))) (sym c.of-key.ensures)
    (subst (λ l. Rule g.O.Object first (opening (laid 0 0) l (opening_view first))) (sym items) (opens g.O.Object first (g.met.O.Object.opens first c.requires)))

pub invariant_of-seat : goal.invariant_of-seat
invariant_of-seat g c = start_rests g.O.Object c.args.first c.in-Ok.made.1 c.of-key.result.value c.of-key.ensures c.in-Ok.ensures.ok.4 (g.met.O.Object.opens c.args.first c.requires)

pub returns-clause-sound : goal.returns-clause-sound
returns-clause-sound g c = (start_rests g.O.Object c.args.first c.in-Ok.made.1 c.of-key.result.value c.of-key.ensures c.in-Ok.ensures.ok.4 (g.met.O.Object.opens c.args.first c.requires)).sound
    c.args.first (ap (λ m. m.0.first) c.in-Ok.ensures.ok.4 ∙ ap (λ o. Some o) c.of-key.ensures) c.in-Ok.made.1.table_id
