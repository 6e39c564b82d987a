use Rattle.delivery_turn.proofs.Fitting.{all_fit, not_misanswered}
use Rattle.delivery_turn.proofs.laws.each_answer_fits.Goals as goal

pub returns-clause-fits : goal.returns-clause-fits
returns-clause-fits c setting events turn delivery = all_fit setting events turn delivery

pub returns-clause-wrong : goal.returns-clause-wrong
returns-clause-wrong c setting event turn delivery = not_misanswered setting event turn delivery
