use Rattle.json_text.specs.Shape.{IsPlaced}
use Rattle.json_text.proofs.Root.{root_is}
use Rattle.json_text.proofs.Walks.{stands_inside}
use Rattle.json_text.proofs.ValueFacts.{placed, fact_at}
use Rattle.json_text.proofs.laws.the_root_is_the_value_of_the_text.Goals as goal

pub returns : goal.returns
returns c doc bytes root shows is =
    root_is doc bytes root shows is (λ spot children later stands. fact_at (IsPlaced bytes) doc root.number spot children later (placed doc bytes root.number shows (stands_inside doc root.number spot children later stands)) stands)
