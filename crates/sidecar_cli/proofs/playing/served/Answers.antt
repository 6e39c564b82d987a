use Rattle.std.proofs.Common.{refl}
use Rattle.sidecar_cli.proofs.playing.served.Goals as goal

pub returns-clause-served : goal.returns-clause-served
returns-clause-served g c = record { served = c.serve_connection.ensures.served; files = refl; outside = refl; note = refl }

pub returns-clause-pass : goal.returns-clause-pass
returns-clause-pass g c = c.serve_connection.ensures.pass
