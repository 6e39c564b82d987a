use Rattle.side_world.proofs.Composed.{tells_on}
use Rattle.sidecar_cli.proofs.playing.start_numbers.Goals as goal

pub returns-clause-asked : goal.returns-clause-asked
returns-clause-asked g c = (c.start_number-one.result, c.start_number-other.result, tells_on _ _ _ _ _ c.start_number-seed.ensures.numbers (tells_on _ _ _ _ _ c.start_number-one.ensures.numbers c.start_number-other.ensures.numbers), c.secret.ensures)
