use Rattle.std.proofs.Common.{refl}
use Rattle.sidecar_cli.specs.Play.{down, up}
use Rattle.sidecar_cli.proofs.playing.keep.Goals as goal

pub session-requires-clause-pass : goal.session-requires-clause-pass
session-requires-clause-pass g c κs within = c.in-Ok.ensures.pass

pub session-requires-clause-lone : goal.session-requires-clause-lone
session-requires-clause-lone g c κs within = c.in-Ok.ensures.lone

pub session-requires-clause-sound : goal.session-requires-clause-sound
session-requires-clause-sound g c κs within = c.in-Ok.ensures.sound

pub session-requires-clause-room : goal.session-requires-clause-room
session-requires-clause-room g c κs within = c.in-Ok.ensures.room

pub session-requires-clause-fit : goal.session-requires-clause-fit
session-requires-clause-fit g c κs within = c.in-Ok.ensures.fit

pub returns-in-Ok : goal.returns-in-Ok
returns-in-Ok g c = up c.in-Ok.up.shared.config c.in-Ok.up.shared.objects c.in-Ok.up.pass _ c.in-Ok.ensures.configured c.in-Ok.ensures.up refl c.session.ensures

pub returns-in-Err : goal.returns-in-Err
returns-in-Err g c = down c.in-Err.ensures.down refl
