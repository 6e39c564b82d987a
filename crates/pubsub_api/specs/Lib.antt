pub mod Publishing
pub mod Listing
pub mod Stepping
