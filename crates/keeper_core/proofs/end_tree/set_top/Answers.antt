use Rattle.keeper_core.proofs.EndTable.{is_top}
use Rattle.keeper_core.proofs.end_tree.set_top.Goals as goal

pub returns : goal.returns
returns c = λ shape holds proper. is_top _ _ _ shape c.set_parent.ensures holds proper
