use Rattle.std.proofs.Common.{[], None, sym, subst, arith}
use Rattle.disk_journal.specs.Image.{IsFile}
use Rattle.disk_journal.specs.Moments.{Shows}
use Rattle.disk_journal.proofs.Images.{end_of-nil}
use Rattle.disk_journal.proofs.journal.Journal.create.Goals as goal

pub returns-in-Ok-clause-holds : goal.returns-in-Ok-clause-holds
returns-in-Ok-clause-holds g c = record {
  len = omega (arith, end_of-nil, c.over.ensures.len);
  torn = c.over.ensures.torn;
  file = subst (λ d. Shows g.D.Disk d (IsFile [] None)) (sym c.over.ensures.disk) c.in-Ok.ensures.image;
}
