use Rattle.std.specs.Prelude.{[], Err}
use Rattle.std.proofs.Common.{refl}
use Rattle.sidecar_cli.proofs.Noted.{noted_nothing}
use Rattle.sidecar_cli.proofs.counting.tell_ledger.Goals as goal

pub returns-in-Err : goal.returns-in-Err
returns-in-Err g c = ([], record { result = Err c.in-Err.exhausted; does = c.in-Err.ensures.does; shows = c.in-Err.ensures.shows; text_is = refl; spent_is = refl }, noted_nothing _)
