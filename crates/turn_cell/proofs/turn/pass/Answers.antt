use Rattle.std.proofs.Common.{Some, ap, ◌∙◌, arith}
use Rattle.atomic_table.specs.Table.{rest}
use Rattle.turn_cell.specs.declared.view.Stage.TheVariants.{Idle}
use Rattle.turn_cell.proofs.Leaves.{passes_turn}
use Rattle.turn_cell.proofs.turn.pass.Goals as goal

pub fetch_add-requires : goal.fetch_add-requires
fetch_add-requires g c = let at = c.requires.served in (c.requires.table.2, omega (arith, c.requires.table.0), passes_turn g.O.Object c.args.table.now.key.value _ _ _ c.args.number at.now c.requires.table.1 at.serves c.requires.late at.holds at.done at.stands)

pub returns-clause-free : goal.returns-clause-free
returns-clause-free g c = let told = c.fetch_add.ensures.2 c.args.number c.requires.served.serves in told.0 ∙ ap (λ l. (record c.args.token.now.me.0 { count = Some c.args.number; stage = Idle }, rest l)) c.requires.served.holds

pub returns-clause-sound : goal.returns-clause-sound
returns-clause-sound g c = (c.fetch_add.ensures.2 c.args.number c.requires.served.serves).1 _ c.requires.table.3
