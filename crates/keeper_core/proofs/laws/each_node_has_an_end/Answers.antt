use Rattle.std.proofs.Common.{length, arith}
use Rattle.std.proofs.lemmas.List.{length-map}
use Rattle.keeper_core.specs.Shapes.{entry_at}
use Rattle.keeper_core.specs.EndTable.{slots_in}
use Rattle.keeper_core.proofs.WithoutSlot.{all_long}
use Rattle.keeper_core.proofs.laws.each_node_has_an_end.Goals as goal

pub returns : goal.returns
returns c keys links root whole = omega (arith, length-map (slots_in links root) (entry_at keys links), whole.proper.few, all_long (length links) (slots_in links root) whole.all)
