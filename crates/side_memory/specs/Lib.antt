pub mod MemoryAcceptor
pub mod MemoryClock
pub mod MemoryFiles
pub mod MemoryLink
pub mod MemoryOutside
pub mod MemorySink
pub mod MemorySource
pub mod Scripts
