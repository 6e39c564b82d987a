pub mod Stepping
pub mod Calling
