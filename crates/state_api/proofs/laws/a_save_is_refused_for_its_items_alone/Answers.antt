use Rattle.state_api.proofs.Fine.{fine_save, faulty_save, long_save}
use Rattle.state_api.proofs.laws.a_save_is_refused_for_its_items_alone.Goals as goal

pub returns-clause-fine : goal.returns-clause-fine
returns-clause-fine c = λ prefix request store raws has short fine. fine_save prefix request raws has short fine

pub returns-clause-faulty : goal.returns-clause-faulty
returns-clause-faulty c = λ prefix request store what faulty. faulty_save prefix request what faulty

pub returns-clause-many : goal.returns-clause-many
returns-clause-many c = λ prefix request store raws has long. long_save prefix request raws has long
