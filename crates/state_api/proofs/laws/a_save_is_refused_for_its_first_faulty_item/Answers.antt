use Rattle.state_api.proofs.FirstFault.{body_fault}
use Rattle.state_api.proofs.laws.a_save_is_refused_for_its_first_faulty_item.Goals as goal

pub returns : goal.returns
returns c = λ prefix request store what words refuses. body_fault prefix request what words refuses
