use Rattle.std.proofs.Common.{◌≤◌, ◌*◌}
use Rattle.objects_speed.proofs.appends.write.Given as goal

abbrev pub invariant-loop : goal.invariant-loop
invariant-loop g l = record {
  there : l.end ≤ g.D.Disk.size l.disk;
  few : l.end ≤ 109 * l.counter;
}
