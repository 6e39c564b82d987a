use Rattle.breaker_core.proofs.Histories.{rests}
use Rattle.breaker_core.proofs.laws.an_open_breaker_rests.Goals as goal

pub returns : goal.returns
returns c = λ first history legal. rests first.policy history (λ before after entry is. (legal.each before after entry is).1)
