use Rattle.std.proofs.Common.{arith, subst, length-drop}
use Rattle.disk_journal.specs.Parsing.{Suffices}
use Rattle.disk_journal.specs.Refusal.{IsPart}
use Rattle.disk_journal.specs.Window.{disk_of, place_of, held_of}
use Rattle.disk_journal.proofs.Wanted.{ends_there}
use Rattle.disk_journal.proofs.holding.hold_record.Goals as goal

pub returns-in-Cut-clause-ends : goal.returns-in-Cut-clause-ends
returns-in-Cut-clause-ends g c at is =
    let one = c.hold.new.self in
    let two = c.hold-2.new.self in
    let size = g.D.Disk.size in
    let first = c.in_ok-hold.ensures in
    let second = c.in_ok-hold-2.ensures in
    ends_there (held_of one) (held_of two) second.held.0 c.wanted_of-wanted.result (place_of one) (place_of two) (size (disk_of one)) (size (disk_of two)) first.enough second.enough second.all second.held.1 second.place second.same.size
    (omega (arith, two.short, two.sized, length-drop two.start two.buffer.items)) (subst (λ z. Suffices z c.wanted_of-wanted.result) c.held.ensures c.wanted_of-wanted.ensures.suffices) (subst IsPart c.held-2.ensures c.in-Cut.ensures)
