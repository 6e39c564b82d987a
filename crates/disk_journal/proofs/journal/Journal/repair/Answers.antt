use Rattle.std.proofs.Common.{refl, arith}
use Rattle.disk_journal.proofs.Appends.{gate_moments, shows_no_more}
use Rattle.disk_journal.proofs.OnResult.{on_err}
use Rattle.disk_journal.proofs.journal.Journal.repair.Goals as goal

pub returns-clause-repaired : goal.returns-clause-repaired
returns-clause-repaired g c bodies doubt holds = record {
  len = holds.len;
  torn = refl;
  file = shows_no_more g.D.Disk bodies doubt c.set_gate.new.disk (c.in_ok-set_gate.ensures.set bodies doubt (omega (arith, holds.len)) holds.file);
}

pub returns-clause-any_moment : goal.returns-clause-any_moment
returns-clause-any_moment g c bodies doubt holds =
    gate_moments g.D.Disk bodies doubt c.args.self.now.disk c.set_gate.new.disk (c.set_gate.ensures.doubt bodies doubt (omega (arith, holds.len)) holds.file)

pub returns-in_err-set_gate-clause-undone : goal.returns-in_err-set_gate-clause-undone
returns-in_err-set_gate-clause-undone g c bodies doubt holds =
    on_err c.from_residual.result (record {
      len = holds.len;
      torn = holds.torn;
      file = (c.set_gate.ensures.doubt bodies doubt (omega (arith, holds.len)) holds.file).shows;
    })

pub returns-in_err-set_gate-clause-any_moment : goal.returns-in_err-set_gate-clause-any_moment
returns-in_err-set_gate-clause-any_moment g c bodies doubt holds =
    gate_moments g.D.Disk bodies doubt c.args.self.now.disk c.set_gate.new.disk (c.set_gate.ensures.doubt bodies doubt (omega (arith, holds.len)) holds.file)
