pub mod Passed
pub mod Linked
pub mod LinkAt
pub mod Cause
pub mod Came
