pub mod Growth
pub mod History
pub mod Passes
pub mod Play
pub mod Rule
pub mod Sitting
pub mod Stepping
