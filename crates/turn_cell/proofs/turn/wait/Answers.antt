use Rattle.std.proofs.Common.{ap, ◌∙◌, subst, arith}
use Rattle.turn_cell.specs.Play.{Hit}
use Rattle.turn_cell.proofs.Turns.{looks}
use Rattle.turn_cell.proofs.turn.wait.Goals as goal

pub load-serving-requires : goal.load-serving-requires
load-serving-requires g c = let same = c.loop.invariant in (
  same.0 ∙ c.requires.table.2,
  omega (arith, c.requires.table.0),
  looks g.O.Object c.args.table.now.key.value _ _ _ c.args.number (ap (λ m. m.0.stage) same.1 ∙ c.requires.waits.waits) (ap (λ m. m.0.kept) same.1 ∙ c.requires.waits.done),
)

pub returns-then-serving-number-clause-table : goal.returns-then-serving-number-clause-table
returns-then-serving-number-clause-table g c = c.load-serving.ensures.0 ∙ c.loop.invariant.0

pub returns-then-serving-number-clause-hit : goal.returns-then-serving-number-clause-hit
returns-then-serving-number-clause-hit g c = let same = c.loop.invariant in
    let told = (c.load-serving.ensures.2 c.args.number (ap (λ m. m.0.stage) same.1 ∙ c.requires.waits.waits)).1 c.if-serving-number.true c.args.table.now.key.value (ap (λ m. m.0.first) same.1 ∙ c.requires.table.3) in
    subst (λ m. Hit g.O.Object c.args.table.now.key.value m c.args.number c.load-serving.new.seat.me) same.1 told

pub loop-preserved : goal.loop-preserved
loop-preserved g c = let same = c.loop.invariant in
    let told = (c.load-serving.ensures.2 c.args.number (ap (λ m. m.0.stage) same.1 ∙ c.requires.waits.waits)).0 c.if-serving-number.false in
    (c.load-serving.ensures.0 ∙ same.0, told ∙ same.1)
