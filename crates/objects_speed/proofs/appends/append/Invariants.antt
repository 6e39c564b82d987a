use Rattle.std.proofs.Common.{◌≡◌, false}
use Rattle.disk_journal.specs.Journal.{torn_of}
use Rattle.objects_speed.proofs.appends.append.Given as goal

abbrev pub invariant-loop : goal.invariant-loop
invariant-loop g l = torn_of l.journal ≡ false
