use Rattle.std.proofs.Common.{sym, ◌∙◌}
use Rattle.keeper_core.proofs.Table.{without-absent}
use Rattle.keeper_core.proofs.row_table.without.Goals as goal

pub returns-else-kept-clause-ends : goal.returns-else-kept-clause-ends
returns-else-kept-clause-ends c = sym (without-absent c.args.key.now c.args.ends.now.ends (sym c.requires.ended ∙ c.if-kept.false))
