use Rattle.std.proofs.Common.{length}
use Rattle.disk_journal.proofs.Staged.{begun_on, begun_still}
use Rattle.disk_journal.proofs.writing.write_behind.Goals as goal

pub returns-in-Ok-clause-begun : goal.returns-in-Ok-clause-begun
returns-in-Ok-clause-begun g c first bodies begun so_far place =
    let e = c.write_at.ensures in
    begun_on g.D.Disk first c.args.disk.now c.write_at.new.self bodies begun c.args.at (length c.args.piece.now) so_far place e.untold e.crash e.time c.args.piece.now c.in-Ok.ensures.written

pub returns-in-Err-clause-whole : goal.returns-in-Err-clause-whole
returns-in-Err-clause-whole g c first bodies begun so_far place =
    let e = c.write_at.ensures in
    begun_still g.D.Disk first c.args.disk.now c.write_at.new.self bodies begun c.args.at (length c.args.piece.now) so_far place e.untold e.crash e.time c.in-Err.ensures.torn
