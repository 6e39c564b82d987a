use Rattle.disk_journal.specs.Image.{header}
use Rattle.disk_journal.proofs.Headers.{other_at}
use Rattle.disk_journal.proofs.parsing.header_fault.Goals as goal

pub returns-clause-none : goal.returns-clause-none
unfolding header
returns-clause-none c = c.first_difference.ensures.equal

pub returns-clause-some : goal.returns-clause-some
unfolding header
returns-clause-some c =
    other_at c.args.bytes.now c.first_difference.result c.if-bytes-lt-HEADER_BYTES.false c.first_difference.ensures.within c.first_difference.ensures.same c.first_difference.ensures.differs
