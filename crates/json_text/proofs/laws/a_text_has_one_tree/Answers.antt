use Rattle.json_text.proofs.Fronts.{one_tree}
use Rattle.json_text.proofs.laws.a_text_has_one_tree.Goals as goal

pub returns : goal.returns
returns c bytes values others a b = one_tree bytes values others a b
