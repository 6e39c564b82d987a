pub mod HostDisk
