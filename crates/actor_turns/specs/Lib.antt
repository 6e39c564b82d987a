pub mod Course
pub mod Lines
pub mod Fresh
pub mod Kept
pub mod Turns
pub mod Turned
pub mod Laws
