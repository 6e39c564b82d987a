pub mod Attempting
pub mod Causes
