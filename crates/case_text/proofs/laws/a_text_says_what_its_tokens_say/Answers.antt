use Rattle.case_text.proofs.Tokens.{is_said, says_one}
use Rattle.case_text.proofs.laws.a_text_says_what_its_tokens_say.Goals as goal

pub returns-clause-said : goal.returns-clause-said
returns-clause-said c = is_said

pub returns-clause-one : goal.returns-clause-one
returns-clause-one c = says_one
