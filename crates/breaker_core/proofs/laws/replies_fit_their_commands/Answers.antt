use Rattle.breaker_core.proofs.Fitting.{are_fitting}
use Rattle.breaker_core.proofs.laws.replies_fit_their_commands.Goals as goal

pub returns : goal.returns
returns c = λ first history legal. are_fitting first.policy history first.bounded.within (λ before after entry is. (legal.each before after entry is).1)
