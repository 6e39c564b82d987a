pub mod Code
pub mod Body
pub mod NoMemory
