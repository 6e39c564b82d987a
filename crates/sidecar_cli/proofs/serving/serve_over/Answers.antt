use Rattle.std.proofs.Common.{◌∙◌, refl, sym}
use Rattle.sidecar_cli.specs.Serve.{unopened, went}
use Rattle.sidecar_cli.proofs.Serves.{served_sound}
use Rattle.sidecar_cli.proofs.serving.serve_over.Goals as goal

pub finish-spent-requires-clause-sound : goal.finish-spent-requires-clause-sound
finish-spent-requires-clause-sound g c κs within = served_sound _ _ _ _ _ _ _ _ _ _ c.requires.root c.requires.sound c.serve-end.ensures.served

pub returns-in-Some : goal.returns-in-Some
returns-in-Some g c = unopened c.serve-end.new.pass _ c.serve-end.result (record { served = c.serve-end.ensures.served; disks = c.serve-end.ensures.disks; numbers = c.serve-end.ensures.numbers }) (sym c.refusal_of.ensures ∙ c.in-Some.is) c.close.ensures.closed refl

pub returns-in-None : goal.returns-in-None
returns-in-None g c = went c.serve-end.new.pass _ c.serve-end.result c.finish-spent.result (record { served = c.serve-end.ensures.served; disks = c.serve-end.ensures.disks; numbers = c.serve-end.ensures.numbers }) (sym c.refusal_of.ensures ∙ c.in-None.is) c.finish-spent.ensures c.status_after_serving.ensures
