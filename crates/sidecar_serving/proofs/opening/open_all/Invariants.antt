use Rattle.std.proofs.Common.{◌≡◌, ◌≤◌, length}
use Rattle.std.specs.Vec.{vec_capacity}
use Rattle.sidecar_objects.specs.Pass.{cells_of, seats_of}
use Rattle.sidecar_serving.specs.Slots.{IsOpenedSlot}
use Rattle.sidecar_serving.proofs.Openings.{OpeningSoFar}
use Rattle.sidecar_serving.proofs.opening.open_all.Given as goal

abbrev pub invariant-loop-rng : goal.invariant-loop-rng
invariant-loop-rng g l = record {
  so_far : OpeningSoFar (cells_of l.shared.objects) l.stop l.port g.R.Rng.stream (IsOpenedSlot l.stop l.shared) l.fn.rngs.items l.yielded l.rng-iterator.rest.items l.slots.items l.number (seats_of l.pass) l.seat (g.O.Outside.calls l.initial.outside) (g.O.Outside.calls l.outside);
  disks : g.O.Outside.disks l.outside ≡ g.O.Outside.disks l.initial.outside;
  numbers : g.O.Outside.numbers l.outside ≡ g.O.Outside.numbers l.initial.outside;
  backs : g.O.Outside.backs l.outside ≡ g.O.Outside.backs l.initial.outside;
  faults : g.O.Outside.faults l.outside ≡ g.O.Outside.faults l.initial.outside;
  room : length l.fn.rngs.items ≤ vec_capacity l.slots;
}
