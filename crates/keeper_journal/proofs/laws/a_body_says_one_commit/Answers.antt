use Rattle.keeper_journal.proofs.Bodies.{same_body}
use Rattle.keeper_journal.proofs.laws.a_body_says_one_commit.Goals as goal

pub returns : goal.returns
returns c = λ bytes commit other first second. same_body bytes commit other first second
