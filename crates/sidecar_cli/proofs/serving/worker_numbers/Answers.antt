use Rattle.side_world.proofs.Composed.{tells_on}
use Rattle.sidecar_cli.proofs.serving.worker_numbers.Goals as goal

pub returns-clause-asked : goal.returns-clause-asked
returns-clause-asked g c =
    let d = c.in_ok-rngs.ensures.drawn in
    (d.0, c.start_number-one.result, c.start_number-other.result, d.1, d.2, tells_on _ _ _ _ _ d.3 (tells_on _ _ _ _ _ c.start_number-one.ensures.numbers c.start_number-other.ensures.numbers), c.secret.ensures)
