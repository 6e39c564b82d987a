use Rattle.std.proofs.Common.{◌≡◌, ◌≤◌, vec_len}
use Rattle.sidecar_objects.specs.contracts.kinds.StoreObjectKinds.TheImpl.{ghosts}
use Rattle.sidecar_objects.specs.Pass.{cells_of, seats_of}
use Rattle.sidecar_serving.specs.Slots.{IsReadySlot, worker_at}
use Rattle.sidecar_serving.proofs.Meetings.{MeetingSoFar}
use Rattle.sidecar_serving.proofs.meeting.meet_all.Given as goal

abbrev pub invariant-loop-slot : goal.invariant-loop-slot
invariant-loop-slot g l = record {
  so_far : MeetingSoFar (ghosts g.row.K g.K.Keeper g.K.Keeper-dict g.K.Destruct-dict).kinds (cells_of l.shared.objects) l.stop worker_at (IsReadySlot l.stop l.shared) l.fn.slots.items l.slots.items (record { seats = seats_of l.initial.pass; backs = g.O.Outside.backs l.initial.outside; faults = g.O.Outside.faults l.initial.outside }) (record { seats = seats_of l.pass; backs = g.O.Outside.backs l.outside; faults = g.O.Outside.faults l.outside }) l.seat l.spent l.failed;
  calls : g.O.Outside.calls l.outside ≡ g.O.Outside.calls l.initial.outside;
  disks : g.O.Outside.disks l.outside ≡ g.O.Outside.disks l.initial.outside;
  numbers : g.O.Outside.numbers l.outside ≡ g.O.Outside.numbers l.initial.outside;
  no_fewer : g.O.Outside.faults l.initial.outside ≤ g.O.Outside.faults l.outside;
}

abbrev pub decreases-loop-slot : goal.decreases-loop-slot
decreases-loop-slot g l = vec_len l.slots
