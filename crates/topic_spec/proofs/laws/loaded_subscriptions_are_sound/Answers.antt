use Rattle.topic_spec.specs.Aiming.{is_kept}
use Rattle.topic_spec.proofs.Sound.{files_sound, list_sound, sound_joined, sound_some}
use Rattle.topic_spec.proofs.laws.loaded_subscriptions_are_sound.Goals as goal

pub returns-clause-files : goal.returns-clause-files
returns-clause-files c = files_sound

pub returns-clause-list : goal.returns-clause-list
returns-clause-list c = list_sound

pub returns-clause-joined : goal.returns-clause-joined
returns-clause-joined c = sound_joined

pub returns-clause-kept : goal.returns-clause-kept
returns-clause-kept c components app = sound_some (is_kept components app)
