use Rattle.std.proofs.Common.{◌∙◌, arith, sym}
use Rattle.api_routes.proofs.Fitting.{free-row}
use Rattle.api_routes.proofs.Serving.{add-row, skip-row}
use Rattle.api_routes.proofs.routers.router_of.Goals as goal
use Rattle.api_routes.proofs.routers.router_of.Goals.{then-has+in_ok-add, else-has}

pub loop-row-preserved : goal.loop-row-preserved
loop-row-preserved c defined are =
    let old = c.loop-row.invariant defined are in
    elim c.if-has.branch [
      | then-has+in_ok-add w ↦ rw (w.router-is) (add-row c.args.method c.args.rows.now c.loop-row.row-index _ defined c.loop-row.router w.add.new.router (omega arith) old (sym c.has.ensures ∙ w.if-has.true) w.in_ok-add.ensures)
      | else-has w ↦ rw (w.router-is) (skip-row c.args.method c.args.rows.now c.loop-row.row-index _ defined c.loop-row.router (omega arith) old (sym c.has.ensures ∙ w.if-has.false))
    ]

pub add-requires : goal.add-requires
add-requires c =
    free-row c.args.method c.args.rows.now c.loop-row.row-index _ c.requires.defined c.loop-row.router (omega arith) c.requires.fit
    (c.loop-row.invariant c.requires.defined c.requires.are_rows) (sym c.has.ensures ∙ c.if-has.true)
