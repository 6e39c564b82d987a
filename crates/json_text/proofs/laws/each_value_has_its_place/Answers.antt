use Rattle.json_text.specs.Shape.{IsPlaced}
use Rattle.json_text.proofs.Walks.{stands_inside}
use Rattle.json_text.proofs.ValueFacts.{placed, fact_at}
use Rattle.json_text.proofs.laws.each_value_has_its_place.Goals as goal

pub returns : goal.returns
returns c doc bytes node spot children later shows stands =
    fact_at (IsPlaced bytes) doc node.number spot children later (placed doc bytes node.number shows (stands_inside doc node.number spot children later stands)) stands
