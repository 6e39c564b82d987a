use Rattle.std.proofs.Common.{◌≡◌}
use Rattle.sidecar_keepers.proofs.Givings.{GivenSoFar}
use Rattle.sidecar_keepers.proofs.giving.give_back.Given as goal

abbrev pub invariant-loop-place : goal.invariant-loop-place
invariant-loop-place g l = record {
  so_far : GivenSoFar g.O.Disk.Disk l.components l.place l.fn.keepers.items l.keepers (g.O.Outside.disks l.initial.outside) (g.O.Outside.disks l.outside) (g.O.Outside.faults l.initial.outside) (g.O.Outside.faults l.outside);
  calls : g.O.Outside.calls l.outside ≡ g.O.Outside.calls l.initial.outside;
  backs : g.O.Outside.backs l.outside ≡ g.O.Outside.backs l.initial.outside;
  numbers : g.O.Outside.numbers l.outside ≡ g.O.Outside.numbers l.initial.outside;
}
