pub mod Kind
pub mod Doing
pub mod Passes
pub mod Did
pub mod Composed
pub mod Shown
pub mod Pass
