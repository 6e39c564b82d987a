pub mod Order
pub mod Stepping
pub mod Counting
