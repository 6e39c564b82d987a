use Rattle.std.proofs.Common.{refl}
use Rattle.policy_run.specs.Effects.{clocked}
use Rattle.sidecar_cli.specs.Play.{unlisted}
use Rattle.sidecar_cli.proofs.Beginning.{configured_as, lacking_as, started_as}
use Rattle.sidecar_cli.proofs.Fits.{told_fit}
use Rattle.sidecar_cli.proofs.starting.over_app.Goals as goal

pub over-requires : goal.over-requires
over-requires g c = told_fit _ c.args.kept.keepers.items c.args.kept.fit

pub give_back-requires-after_bounds : goal.give_back-requires-after_bounds
give_back-requires-after_bounds g c κs within = told_fit _ c.args.kept.keepers.items c.args.kept.fit

pub returns-in-Ok-clause-configured : goal.returns-in-Ok-clause-configured
returns-in-Ok-clause-configured g c = configured_as (λ up. up.shared.config) (λ up. up.shared.objects) (λ up. up.pass) c.args.kept.keepers.items _ c.args.given c.args.kept.resources _ _ c.in-Ok.subs c.in-Ok.ensures (λ i. record { app = c.args.given.app; app_port = c.args.given.app_port; peers = c.args.given.peers; components = c.args.kept.resources.components; subs = c.allowed.ensures i; policies = c.args.kept.resources.policies }) _ c.over.ensures.same

pub returns-in-Ok-clause-started : goal.returns-in-Ok-clause-started
returns-in-Ok-clause-started g c = started_as (λ up. up.shared.config) (λ up. up.shared.objects) (λ up. up.pass) c.args.kept.keepers.items _ c.now-start.result (clocked g.C.Clock c.args.clock.now) (clocked g.C.Clock c.now-start.new.self) (record { later = c.now-start.ensures.later; last = c.now-start.ensures.last; paused = c.now-start.ensures.paused; ticks = c.now-start.ensures.ticks }) _ c.over.ensures.same c.over.ensures.started

pub returns-in-Ok-clause-down : goal.returns-in-Ok-clause-down
returns-in-Ok-clause-down g c = lacking_as (λ up. up.shared.config) (λ up. up.shared.objects) (λ up. up.pass) c.args.kept.keepers.items _ c.args.given c.args.kept.resources _ _ c.in-Ok.subs c.in-Ok.ensures (λ i. record { app = c.args.given.app; app_port = c.args.given.app_port; peers = c.args.given.peers; components = c.args.kept.resources.components; subs = c.allowed.ensures i; policies = c.args.kept.resources.policies }) c.now-start.result (clocked g.C.Clock c.args.clock.now) (clocked g.C.Clock c.now-start.new.self) (record { later = c.now-start.ensures.later; last = c.now-start.ensures.last; paused = c.now-start.ensures.paused; ticks = c.now-start.ensures.ticks }) _ _ c.over.ensures.lacks

pub returns-in-Err-clause-down : goal.returns-in-Err-clause-down
returns-in-Err-clause-down g c = unlisted c.in-Err.ensures refl (record { back = c.give_back.ensures.given; faults = c.give_back.ensures.faults; calls = c.give_back.ensures.calls; numbers = c.give_back.ensures.numbers })
