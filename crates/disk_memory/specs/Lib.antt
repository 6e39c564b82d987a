pub mod DiskNotes
pub mod MemoryDisk
pub mod Plan
