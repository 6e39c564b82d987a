use Rattle.json_text.proofs.Structure.{structure}
use Rattle.json_text.proofs.laws.texts_are_those_of_the_productions.Goals as goal

pub returns : goal.returns
returns c bytes values = structure bytes values
