use Rattle.disk_journal.proofs.Calls.{append_call, refused_call}
use Rattle.disk_journal.proofs.laws.append_in_a_run.Goals as goal

pub returns-clause-acknowledged : goal.returns-clause-acknowledged
returns-clause-acknowledged g c =
    let e = c.append.ensures in
    append_call g.D.Disk c.args.journal.now c.append.new.self c.args.body.now c.requires e.any_moment c.append.result e.appended

pub returns-clause-not_acknowledged : goal.returns-clause-not_acknowledged
returns-clause-not_acknowledged g c =
    let e = c.append.ensures in
    refused_call g.D.Disk c.args.journal.now c.append.new.self c.args.body.now c.requires e.any_moment g.met.D.Disk.only_now c.append.result e.undone e.unchanged e.causes
