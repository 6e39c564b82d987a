use Rattle.std.proofs.Common.{◌≡◌, ◌-◌}
use Rattle.keeper_journal.specs.Reading.{changes_at}
use Rattle.keeper_journal.proofs.Loop.{with_front}
use Rattle.keeper_journal.proofs.decoding.read_changes.Given as goal

abbrev pub invariant-loop : goal.invariant-loop
invariant-loop l = with_front l.list (changes_at (l.count - l.counter) l.rest) ≡ changes_at l.count l.bytes
