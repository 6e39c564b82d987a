use Rattle.sidecar_cli.specs.Serve.{asked}
use Rattle.sidecar_cli.specs.World.{outside_at, world_at}
use Rattle.sidecar_cli.proofs.Fitting.{numbered}
use Rattle.sidecar_cli.proofs.Serves.{begun_serving_by}
use Rattle.sidecar_cli.proofs.serving.serve_port.Goals as goal

pub returns-in-Ok : goal.returns-in-Ok
returns-in-Ok g c =
    let e = c.in-Ok.ensures in
    let after = outside_at g.O.Outside c.worker_numbers.new.outside in
    let before = world_at g.S.Source g.N.Sink g.E.Sink g.F.Files g.L.Link g.C.Clock g.O.Outside c.args.world.now in
    asked e.asked.0 e.asked.1 e.asked.2 (record before { outside = after }) e.asked.3 e.asked.5 (numbered before after e.disks e.calls e.backs e.faults) (begun_serving_by e.asked.4 c.begin.ensures)
