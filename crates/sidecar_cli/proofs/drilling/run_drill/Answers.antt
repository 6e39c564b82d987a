use Rattle.std.proofs.Common.{refl}
use Rattle.sidecar_cli.specs.Drill.{lacks, ready}
use Rattle.sidecar_cli.specs.World.{outside_at, world_at}
use Rattle.sidecar_cli.proofs.Drilled.{ready_by}
use Rattle.sidecar_cli.proofs.Fitting.{numbered}
use Rattle.sidecar_cli.proofs.drilling.run_drill.Goals as goal

pub returns-in-Ok : goal.returns-in-Ok
returns-in-Ok g c =
    let after = outside_at g.O.Outside c.start_numbers-seed.new.outside in
    let before = world_at g.S.Source g.N.Sink g.E.Sink g.F.Files g.L.Link g.C.Clock g.O.Outside c.args.world.now in
    record {
      seed = c.start_numbers-seed.result.0;
      one = c.start_numbers-seed.ensures.asked.0;
      other = c.start_numbers-seed.ensures.asked.1;
      between = record before { outside = after };
      asked = c.start_numbers-seed.ensures.asked.2;
      only = numbered before after c.start_numbers-seed.ensures.disks c.start_numbers-seed.ensures.calls c.start_numbers-seed.ensures.backs c.start_numbers-seed.ensures.faults;
      ran = ready_by c.words_from-rng.ensures (ready c.in-Ok.ready.config c.in-Ok.ready.bytes c.in-Ok.ensures c.answer_all.ensures);
    }

pub returns-in-Err : goal.returns-in-Err
returns-in-Err g c =
    let after = outside_at g.O.Outside c.start_numbers-seed.new.outside in
    let before = world_at g.S.Source g.N.Sink g.E.Sink g.F.Files g.L.Link g.C.Clock g.O.Outside c.args.world.now in
    record {
      seed = c.start_numbers-seed.result.0;
      one = c.start_numbers-seed.ensures.asked.0;
      other = c.start_numbers-seed.ensures.asked.1;
      between = record before { outside = after };
      asked = c.start_numbers-seed.ensures.asked.2;
      only = numbered before after c.start_numbers-seed.ensures.disks c.start_numbers-seed.ensures.calls c.start_numbers-seed.ensures.backs c.start_numbers-seed.ensures.faults;
      ran = lacks refl refl;
    }
