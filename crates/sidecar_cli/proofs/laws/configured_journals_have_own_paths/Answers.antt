use Rattle.sidecar_cli.proofs.Journals.{configured_own}
use Rattle.sidecar_cli.proofs.laws.configured_journals_have_own_paths.Goals as goal

pub returns : goal.returns
returns c = configured_own
