use Rattle.std.proofs.Common.{◌≡◌, ◌≤◌, length, take, vec_len}
use Rattle.std.specs.Vec.{vec_capacity}
use Rattle.side_world.specs.Told.{Tells}
use Rattle.sidecar_keepers.specs.Made.{AreMade, HashBehind}
use Rattle.sidecar_keepers.specs.Stores.{stores_of, takes_of}
use Rattle.sidecar_keepers.proofs.starting.start_keepers.Given as goal

abbrev pub invariant-loop-place : goal.invariant-loop-place
invariant-loop-place g l = record {
  made : AreMade g.O.Disk.Disk (stores_of (take l.place l.components)) l.keepers.items (g.O.Outside.disks l.initial.outside) (g.O.Outside.disks l.outside);
  hasher : HashBehind l.secret l.keepers.items;
  takes : Tells (g.O.Outside.calls l.initial.outside) (g.O.Outside.calls l.outside) (takes_of (take l.place l.components));
  no_fault : g.O.Outside.faults l.outside ≡ g.O.Outside.faults l.initial.outside;
  backs : g.O.Outside.backs l.outside ≡ g.O.Outside.backs l.initial.outside;
  numbers : g.O.Outside.numbers l.outside ≡ g.O.Outside.numbers l.initial.outside;
  long : vec_len l.keepers ≤ l.place;
  room : length l.components ≤ vec_capacity l.keepers;
}
