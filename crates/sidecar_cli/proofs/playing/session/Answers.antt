use Rattle.std.proofs.Common.{◌∙◌, ap, refl}
use Rattle.sidecar_objects.specs.Composed.{lone_stays, sound_stays}
use Rattle.sidecar_cli.specs.Status.{held_over}
use Rattle.sidecar_cli.proofs.Fitting.{lone_served, sound_served}
use Rattle.sidecar_cli.proofs.playing.session.Goals as goal

pub drained-how-requires : goal.drained-how-requires
drained-how-requires g c = c.served-ended.ensures.pass

pub finish-spent-requires-clause-pass : goal.finish-spent-requires-clause-pass
finish-spent-requires-clause-pass g c κs within = c.drained-how.ensures.pass

pub finish-spent-requires-clause-lone : goal.finish-spent-requires-clause-lone
finish-spent-requires-clause-lone g c κs within = lone_stays _ _ _ _ _ c.drained-how.ensures.does.went (lone_served c.served-ended.ensures.served c.requires.lone)

pub finish-spent-requires-clause-sound : goal.finish-spent-requires-clause-sound
finish-spent-requires-clause-sound g c κs within = sound_stays _ _ _ _ _ c.drained-how.ensures.does.went (sound_served c.served-ended.ensures.served c.requires.sound)

pub finish-spent-requires-clause-room : goal.finish-spent-requires-clause-room
finish-spent-requires-clause-room g c κs within = c.requires.room

pub finish-spent-requires-clause-fit : goal.finish-spent-requires-clause-fit
finish-spent-requires-clause-fit g c κs within = c.requires.fit

pub returns : goal.returns
returns g c = record {
  after = c.served-ended.new.pass;
  between = _;
  ended = c.served-ended.result;
  more = g.R.Rng.stream c.served-ended.new.rng;
  served = c.served-ended.ensures.served;
  idle = c.drained-how.new.pass;
  later = _;
  how = c.drained-how.result;
  drained = record { rest = g.R.Rng.stream c.drained-how.new.rng; does = c.drained-how.ensures.does; only = refl };
  spent = c.finish-spent.result;
  finished = c.finish-spent.ensures;
  rest = refl;
  ends = c.held_over.ensures ∙ ap (held_over c.drained-how.result) c.status_after.ensures;
}
