use Rattle.state_api.proofs.Moments.{same_response, same_answer, same_cut}
use Rattle.state_api.proofs.laws.the_moment_changes_no_response.Goals as goal

pub returns-clause-response : goal.returns-clause-response
returns-clause-response c = same_response

pub returns-clause-answer : goal.returns-clause-answer
returns-clause-answer c = same_answer

pub returns-clause-cut : goal.returns-clause-cut
returns-clause-cut c = same_cut
