use Rattle.std.proofs.Common.{ap, ◌∙◌, arith}
use Rattle.turn_cell.proofs.Steps.{glances}
use Rattle.turn_cell.proofs.Turns.{draws}
use Rattle.turn_cell.proofs.Told.{glanced_out}
use Rattle.turn_cell.proofs.turn.draw.Goals as goal

pub load-count-requires : goal.load-count-requires
load-count-requires g c = (c.requires.table.2, omega (arith, c.requires.table.0), glances g.O.Object c.args.table.now.key.value _ _ _ c.requires.free.idle c.requires.free.done)

pub fetch_add-requires : goal.fetch_add-requires
fetch_add-requires g c = let told = c.load-count.ensures in (
  told.0 ∙ c.requires.table.2,
  omega (arith, c.requires.table.0),
  draws g.O.Object c.args.table.now.key.value _ _ _ (ap (λ m. m.0.stage) (told.2.0 c.if-count-ge-MOST_ENTRIES.false)),
)

pub returns-then-count-ge-MOST_ENTRIES-clause-err : goal.returns-then-count-ge-MOST_ENTRIES-clause-err
returns-then-count-ge-MOST_ENTRIES-clause-err g c = let told = c.load-count.ensures in let late = c.if-count-ge-MOST_ENTRIES.true in let out = told.2.1 late in (
  glanced_out g.O.Object c.args.table.now.key.value c.args.token.now c.load-count.new.seat told.0 _ late out.0 (out.1 _ c.requires.table.3).0 (out.1 _ c.requires.table.3).1,
  record {
    idle = ap (λ m. m.0.stage) out.0 ∙ c.requires.free.idle;
    bare = ap (λ m. m.1) out.0 ∙ c.requires.free.bare;
    done = ap (λ m. m.0.kept) out.0 ∙ c.requires.free.done;
  },
)
