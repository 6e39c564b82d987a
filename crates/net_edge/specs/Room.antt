-- Which descriptors connections may have.
use Rattle.std.specs.Prelude.{ℕ, ◌-◌, ◌*◌}
use Rattle.net_edge.specs.declared.door_limits.DoorLimits.{DoorLimits}

-- one past the greatest descriptor that a connection may have: the greatest are left to the calls of so many workers and to the disks
abbrev pub places_beside : DoorLimits → ℕ → ℕ
places_beside limits workers = limits.places - limits.left_to_worker * workers - limits.left_to_disks
