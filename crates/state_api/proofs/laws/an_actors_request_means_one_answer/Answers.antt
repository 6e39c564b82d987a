use Rattle.state_api.proofs.OneAnswer.{one_actors_answer}
use Rattle.state_api.proofs.laws.an_actors_request_means_one_answer.Goals as goal

pub returns : goal.returns
returns c = one_actors_answer c.a_text_has_one_tree.ensures
