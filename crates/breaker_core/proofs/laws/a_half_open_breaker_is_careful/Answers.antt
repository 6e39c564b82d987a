use Rattle.breaker_core.proofs.Histories.{is_careful}
use Rattle.breaker_core.proofs.laws.a_half_open_breaker_is_careful.Goals as goal

pub returns : goal.returns
returns c = λ first history legal. is_careful first.policy history (λ before after entry is. (legal.each before after entry is).1)
