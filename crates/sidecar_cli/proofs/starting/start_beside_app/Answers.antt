use Rattle.std.proofs.Common.{IfErr, IfOk, refl, subst}
use Rattle.resource_files.specs.declared.resources.Resources.{Resources}
use Rattle.link_call.specs.LinkAt.{link_at}
use Rattle.sidecar_cli.specs.Play.{IsConfiguredBy, IsDownBeside, unkept}
use Rattle.sidecar_cli.specs.World.{beside_at}
use Rattle.sidecar_cli.proofs.Beginning.{down_over, up_over}
use Rattle.sidecar_cli.proofs.starting.start_beside_app.Goals as goal

pub returns-in-Ok-clause-configured : goal.returns-in-Ok-clause-configured
returns-in-Ok-clause-configured g c = subst (λ (r : Resources). IfOk c.over_app.result (λ up. IsConfiguredBy c.args.given r (link_at g.L.Link c.args.link.now) (link_at g.L.Link c.over_app.new.link) up.shared.config)) c.in-Ok.ensures.same c.over_app.ensures.configured

pub returns-in-Ok-clause-up : goal.returns-in-Ok-clause-up
returns-in-Ok-clause-up g c = up_over (λ up. up.shared.config) (λ up. up.shared.objects) (λ up. up.pass) c.args.given c.in-Ok.kept.resources c.in-Ok.kept.keepers.items (beside_at g.L.Link g.C.Clock g.O.Outside c.args.link.now c.args.clock.now c.args.outside.now) (beside_at g.L.Link g.C.Clock g.O.Outside c.over_app.new.link c.over_app.new.clock c.over_app.new.outside) _ c.in-Ok.ensures.kept _ _
    c.over_app.ensures.configured c.over_app.ensures.started c.over_app.ensures.untouched c.over_app.ensures.sound

pub returns-in-Ok-clause-down : goal.returns-in-Ok-clause-down
returns-in-Ok-clause-down g c = subst (λ (r : Resources). IfErr c.over_app.result (λ status. IsDownBeside g.O.Disk.Disk c.args.given r (beside_at g.L.Link g.C.Clock g.O.Outside c.args.link.now c.args.clock.now c.args.outside.now) (beside_at g.L.Link g.C.Clock g.O.Outside c.over_app.new.link c.over_app.new.clock c.over_app.new.outside) status)) c.in-Ok.ensures.same
    (down_over (λ up. up.shared.config) (λ up. up.shared.objects) (λ up. up.pass) c.args.given c.in-Ok.kept.resources c.in-Ok.kept.keepers.items (beside_at g.L.Link g.C.Clock g.O.Outside c.args.link.now c.args.clock.now c.args.outside.now) (beside_at g.L.Link g.C.Clock g.O.Outside c.over_app.new.link c.over_app.new.clock c.over_app.new.outside) _ c.in-Ok.ensures.kept _ c.over_app.ensures.down)

pub returns-in-Err-clause-down : goal.returns-in-Err-clause-down
returns-in-Err-clause-down g c = unkept c.in-Err.ensures.unkept refl refl
