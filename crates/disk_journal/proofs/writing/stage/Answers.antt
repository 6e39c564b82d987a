use Rattle.std.proofs.Common.{[], ◌∷◌, ◌++◌, length, ap, arith, length-append}
use Rattle.disk_journal.proofs.OnResult.{on_ok}
use Rattle.disk_journal.proofs.Staged.{begins, sync_on, all_staged}
use Rattle.disk_journal.proofs.writing.stage.Goals as goal

pub returns-in_err-write_behind-clause-whole : goal.returns-in_err-write_behind-clause-whole
returns-in_err-write_behind-clause-whole g c bodies place shows =
    let start = begins g.D.Disk c.args.disk.now bodies (g.met.D.Disk.only_now c.args.disk.now) shows in
    ([], c.in_err-write_behind.ensures.whole c.args.disk.now bodies [] start (omega (arith, place)))

pub returns-in_err-write_behind-2-clause-whole : goal.returns-in_err-write_behind-2-clause-whole
returns-in_err-write_behind-2-clause-whole g c bodies place shows =
    let start = begins g.D.Disk c.args.disk.now bodies (g.met.D.Disk.only_now c.args.disk.now) shows in
    let len = c.to_le_bytes.result in
    let first = c.in_ok-write_behind.ensures.begun c.args.disk.now bodies [] start (omega (arith, place)) in
    let eight = ap length c.to_le_bytes.ensures in
    (len, c.in_err-write_behind-2.ensures.whole c.args.disk.now bodies len first (omega (arith, place, eight)))

pub returns-in_err-write_behind-3-clause-whole : goal.returns-in_err-write_behind-3-clause-whole
returns-in_err-write_behind-3-clause-whole g c bodies place shows =
    let start = begins g.D.Disk c.args.disk.now bodies (g.met.D.Disk.only_now c.args.disk.now) shows in
    let len = c.to_le_bytes.result in
    let body = c.args.body.now in
    let first = c.in_ok-write_behind.ensures.begun c.args.disk.now bodies [] start (omega (arith, place)) in
    let eight = ap length c.to_le_bytes.ensures in
    let second = c.in_ok-write_behind-2.ensures.begun c.args.disk.now bodies len first (omega (arith, place, eight)) in
    (len ++ body, c.in_err-write_behind-3.ensures.whole c.args.disk.now bodies (len ++ body) second (omega (arith, place, eight, length-append len body)))

pub returns-clause-whole : goal.returns-clause-whole
returns-clause-whole g c bodies place shows =
    let start = begins g.D.Disk c.args.disk.now bodies (g.met.D.Disk.only_now c.args.disk.now) shows in
    let len = c.to_le_bytes.result in
    let body = c.args.body.now in
    let first = c.in_ok-write_behind.ensures.begun c.args.disk.now bodies [] start (omega (arith, place)) in
    let eight = ap length c.to_le_bytes.ensures in
    let second = c.in_ok-write_behind-2.ensures.begun c.args.disk.now bodies len first (omega (arith, place, eight)) in
    let third = c.in_ok-write_behind-3.ensures.begun c.args.disk.now bodies (len ++ body) second (omega (arith, place, eight, length-append len body)) in
    let e = c.sync.ensures in
    ((len ++ body) ++ 0 ∷ [], sync_on g.D.Disk c.args.disk.now c.write_behind-3.new.disk c.sync.new.disk bodies ((len ++ body) ++ 0 ∷ []) third e.contents e.crash e.time)

pub returns-clause-staged : goal.returns-clause-staged
returns-clause-staged g c bodies place shows =
    let start = begins g.D.Disk c.args.disk.now bodies (g.met.D.Disk.only_now c.args.disk.now) shows in
    let len = c.to_le_bytes.result in
    let body = c.args.body.now in
    let first = c.in_ok-write_behind.ensures.begun c.args.disk.now bodies [] start (omega (arith, place)) in
    let eight = ap length c.to_le_bytes.ensures in
    let second = c.in_ok-write_behind-2.ensures.begun c.args.disk.now bodies len first (omega (arith, place, eight)) in
    let third = c.in_ok-write_behind-3.ensures.begun c.args.disk.now bodies (len ++ body) second (omega (arith, place, eight, length-append len body)) in
    let e = c.sync.ensures in
    on_ok c.sync.result
    (λ durable. all_staged g.D.Disk c.args.disk.now c.write_behind-3.new.disk c.sync.new.disk bodies len body c.to_le_bytes.ensures (omega (arith, c.requires.fits)) third e.contents durable)
    e.durable
