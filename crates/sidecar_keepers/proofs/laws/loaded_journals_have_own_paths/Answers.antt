use Rattle.sidecar_keepers.proofs.OwnPaths.{loaded_own, joined_own}
use Rattle.sidecar_keepers.proofs.laws.loaded_journals_have_own_paths.Goals as goal

pub returns-clause-loaded : goal.returns-clause-loaded
returns-clause-loaded c = loaded_own

pub returns-clause-joined : goal.returns-clause-joined
returns-clause-joined c = joined_own
