use Rattle.sidecar_cli.proofs.Lines.{own_lines}
use Rattle.sidecar_cli.proofs.laws.each_broker_has_its_own_line.Goals as goal

pub returns : goal.returns
returns g c = λ cells components seats seats' note note' spent told. own_lines _ cells components seats seats' told.texts spent told.counted
