-- What a disk of the host remembers of its syncs.
use Rattle.std.specs.Prelude.{Bool}
use Rattle.host_devices.specs.declared.host_disk.HostDisk.{HostDisk}

-- a sync has failed
abbrev pub is_lost : HostDisk → Bool
is_lost disk = disk.lost
