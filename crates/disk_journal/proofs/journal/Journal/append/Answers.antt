use Rattle.std.proofs.Common.{refl, inl, inr, arith}
use Rattle.disk_journal.proofs.Appends.{refused_moments, stage_moments, append_moments, shows_one_more}
use Rattle.disk_journal.proofs.Images.{end_of-push}
use Rattle.disk_journal.proofs.Staged.{whole_so_far}
use Rattle.disk_journal.proofs.journal.Journal.append.Goals as goal

pub returns-then-len-from-clause-any_moment : goal.returns-then-len-from-clause-any_moment
returns-then-len-from-clause-any_moment g c bodies holds =
    refused_moments g.D.Disk bodies c.args.body.now c.args.self.now.disk (g.met.D.Disk.only_now c.args.self.now.disk) holds.file

pub returns-in_err-stage-clause-undone : goal.returns-in_err-stage-clause-undone
returns-in_err-stage-clause-undone g c bodies holds failed =
    let begun = c.stage.ensures.whole bodies (omega (arith, holds.len)) holds.file in
    inl (record {
      len = holds.len;
      torn = holds.torn;
      file = whole_so_far g.D.Disk c.args.self.now.disk c.stage.new.disk bodies begun.0 begun.1;
    })

pub returns-in_err-stage-clause-any_moment : goal.returns-in_err-stage-clause-any_moment
returns-in_err-stage-clause-any_moment g c bodies holds =
    let begun = c.stage.ensures.whole bodies (omega (arith, holds.len)) holds.file in
    stage_moments g.D.Disk bodies c.args.body.now c.args.self.now.disk c.stage.new.disk begun.0 begun.1

pub returns-in_err-set_gate-clause-undone : goal.returns-in_err-set_gate-clause-undone
returns-in_err-set_gate-clause-undone g c bodies holds failed =
    let staged = c.in_ok-stage.ensures.staged bodies (omega (arith, holds.len)) holds.file in
    let doubt = c.set_gate.ensures.doubt bodies c.args.body.now (omega (arith, holds.len)) staged in
    inr (record { len = holds.len; torn = refl; file = doubt.shows })

pub returns-in_err-set_gate-clause-any_moment : goal.returns-in_err-set_gate-clause-any_moment
returns-in_err-set_gate-clause-any_moment g c bodies holds =
    let begun = c.stage.ensures.whole bodies (omega (arith, holds.len)) holds.file in
    let staged = c.in_ok-stage.ensures.staged bodies (omega (arith, holds.len)) holds.file in
    let doubt = c.set_gate.ensures.doubt bodies c.args.body.now (omega (arith, holds.len)) staged in
    append_moments g.D.Disk bodies c.args.body.now c.args.self.now.disk c.stage.new.disk c.set_gate.new.disk begun.0 begun.1 doubt

pub returns-clause-any_moment : goal.returns-clause-any_moment
returns-clause-any_moment g c bodies holds =
    let begun = c.stage.ensures.whole bodies (omega (arith, holds.len)) holds.file in
    let staged = c.in_ok-stage.ensures.staged bodies (omega (arith, holds.len)) holds.file in
    let doubt = c.set_gate.ensures.doubt bodies c.args.body.now (omega (arith, holds.len)) staged in
    append_moments g.D.Disk bodies c.args.body.now c.args.self.now.disk c.stage.new.disk c.set_gate.new.disk begun.0 begun.1 doubt

pub returns-clause-appended : goal.returns-clause-appended
returns-clause-appended g c bodies holds =
    let staged = c.in_ok-stage.ensures.staged bodies (omega (arith, holds.len)) holds.file in
    record {
      len = omega (arith, holds.len, end_of-push bodies c.args.body.now);
      torn = refl;
      file = shows_one_more g.D.Disk bodies c.args.body.now c.set_gate.new.disk (c.in_ok-set_gate.ensures.set bodies c.args.body.now (omega (arith, holds.len)) staged);
    }
