pub mod Counting
pub mod Givings
pub mod Hashing
pub mod Makings
pub mod OwnPaths
pub mod Places
pub mod Refusals
pub mod Runs
