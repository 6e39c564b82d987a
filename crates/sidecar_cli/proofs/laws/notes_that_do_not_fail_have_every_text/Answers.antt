use Rattle.sidecar_cli.proofs.Noted.{whole_all}
use Rattle.sidecar_cli.proofs.laws.notes_that_do_not_fail_have_every_text.Goals as goal

pub returns : goal.returns
returns c = whole_all
