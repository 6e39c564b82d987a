use Rattle.std.proofs.Common.{◌<◌, ◌∷◌, [], length, length-append, ap, sym, ◌∙◌, arith}
use Rattle.std.specs.Arc.{arc_value}
use Rattle.ledger_core.specs.Rows.{entries_in, nodes_of}
use Rattle.ledger_core.proofs.NewRows.{with_row, without_row}
use Rattle.ledger_core.proofs.rows.new_rows.Goals as goal
use Rattle.ledger_core.proofs.rows.new_rows.Goals.{in-Some+in_ok-push-in-Some, in-None}

pub loop-i-preserved : goal.loop-i-preserved
loop-i-preserved c =
    let lt : c.loop-i.i < length c.args.aims.now = (let len = c.len-i-end.ensures in let test = c.loop-i-test.true in omega arith) in
    elim c.match-branch-2.branch [
      | in-Some+in_ok-push-in-Some w ↦
          let far =
          with_row c.args.plans.now c.args.origin.now.no (arc_value c.args.origin.now.event) c.args.origin.now.hops c.args.origin.now.due c.args.aims.now c.loop-i.i c.at.result.now c.loop-i.nodes c.loop-i.drops w.in-Some.node
          lt c.at.ensures c.loop-i.invariant.rows c.loop-i.invariant.drops (sym (ap nodes_of w.in-Some.is) ∙ c.in_ok-node.ensures) in
          record {
            rows = ap entries_in (w.nodes-is ∙ w.in_ok-push-in-Some.ensures.ok) ∙ far.rows;
            drops = w.drops-is ∙ far.drops_are;
            few = let e = w.drops-is in let g = c.loop-i.invariant.few in omega arith;
            short = let e = ap length (w.nodes-is ∙ w.in_ok-push-in-Some.ensures.ok) in let l = length-append c.loop-i.nodes (w.in-Some.node ∷ []) in let g = c.loop-i.invariant.short in omega (arith, e, l, g);
          }
      | in-None w ↦
          let far =
          without_row c.args.plans.now c.args.origin.now.no (arc_value c.args.origin.now.event) c.args.origin.now.hops c.args.origin.now.due c.args.aims.now c.loop-i.i c.at.result.now c.loop-i.nodes c.loop-i.drops
          lt c.at.ensures c.loop-i.invariant.rows c.loop-i.invariant.drops (sym (ap nodes_of w.in-None.is) ∙ c.in_ok-node.ensures) in
          record {
            rows = ap entries_in w.nodes-is ∙ far.rows;
            drops = w.drops-is ∙ far.drops_are;
            few = let e = w.drops-is in let g = c.loop-i.invariant.few in omega arith;
            short = let e = ap length w.nodes-is in let g = c.loop-i.invariant.short in omega (arith, e, g);
          }
    ]
