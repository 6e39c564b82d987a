use Rattle.std.proofs.Common.{None, sym, ◌∙◌, subst, arith}
use Rattle.disk_journal.specs.Image.{IsFile}
use Rattle.disk_journal.specs.Moments.{Shows}
use Rattle.disk_journal.proofs.Opened.{all_shown}
use Rattle.disk_journal.proofs.opening.Opening.into_journal.Goals as goal

pub returns-clause-holds : goal.returns-clause-holds
returns-clause-holds g c first bodies all = record {
  len = omega (arith, c.over.ensures.len, c.place-end.ensures, all.given.gate);
  torn = c.over.ensures.torn;
  file = subst (λ d. Shows g.D.Disk d (IsFile bodies None)) (sym (c.over.ensures.disk ∙ c.into_disk.ensures)) (all_shown g.D.Disk first c.args.self bodies all);
}
