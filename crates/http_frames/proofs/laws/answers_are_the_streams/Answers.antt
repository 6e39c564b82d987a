use Rattle.http_frames.proofs.AnswerLemmas.{next_answer}
use Rattle.http_frames.proofs.laws.answers_are_the_streams.Goals as goal

pub returns : goal.returns
returns c = λ bytes steps all answer refusal is gives. next_answer bytes steps all is.state is.new answer refusal is.run gives is.next
