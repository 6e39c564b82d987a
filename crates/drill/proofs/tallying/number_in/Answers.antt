use Rattle.drill.proofs.Tallies.{number_told}
use Rattle.drill.proofs.tallying.number_in.Goals as goal

pub returns : goal.returns
returns c = λ n few whole. number_told c.args.text.now c.split_digits.result.0.now n c.number_of.result few whole c.split_digits.ensures.digits c.number_of.ensures
