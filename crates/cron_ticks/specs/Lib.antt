pub mod Schedule
pub mod Course
pub mod Following
pub mod Kept
pub mod Ticks
pub mod Laws
