use Rattle.disk_journal.specs.Image.{IsRecorded}
use Rattle.disk_journal.proofs.Crashes.{synced}
use Rattle.disk_journal.proofs.Gates.{gate_torn, gate_written, gate_reads, doubt_synced}
use Rattle.disk_journal.proofs.OnResult.{on_ok}
use Rattle.disk_journal.proofs.writing.set_gate.Goals as goal

pub returns-in-Ok-clause-set : goal.returns-in-Ok-clause-set
returns-in-Ok-clause-set g c bodies body place shows =
    let e = c.write_at.ensures in
    let reads = gate_reads g.D.Disk c.args.disk.now c.write_at.new.self bodies body c.args.end place (g.met.D.Disk.only_now c.args.disk.now) shows e.untold e.crash e.time c.args.gate c.in-Ok.ensures.written in
    on_ok c.sync.result (λ durable. synced g.D.Disk c.write_at.new.self c.sync.new.disk (λ bytes. IsRecorded bytes bodies c.args.gate body) c.sync.ensures.contents durable reads) c.sync.ensures.durable

pub returns-in-Ok-clause-doubt : goal.returns-in-Ok-clause-doubt
returns-in-Ok-clause-doubt g c bodies body place shows =
    let e = c.write_at.ensures in
    let s = c.sync.ensures in
    let written = gate_written g.D.Disk c.args.disk.now c.write_at.new.self bodies body c.args.end place (g.met.D.Disk.only_now c.args.disk.now) shows e.untold e.crash e.time c.args.gate c.in-Ok.ensures.written in
    doubt_synced g.D.Disk c.write_at.new.self c.sync.new.disk bodies body c.args.disk.now written s.contents s.crash s.time

pub returns-in-Err-clause-doubt : goal.returns-in-Err-clause-doubt
returns-in-Err-clause-doubt g c bodies body place shows =
    let e = c.write_at.ensures in
    gate_torn g.D.Disk c.args.disk.now c.write_at.new.self bodies body c.args.end place (g.met.D.Disk.only_now c.args.disk.now) shows e.untold e.crash e.time c.in-Err.ensures.torn
