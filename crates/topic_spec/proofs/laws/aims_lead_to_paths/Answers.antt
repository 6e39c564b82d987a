use Rattle.topic_spec.proofs.Sound.{all_lead}
use Rattle.topic_spec.proofs.laws.aims_lead_to_paths.Goals as goal

pub returns : goal.returns
returns c = all_lead
