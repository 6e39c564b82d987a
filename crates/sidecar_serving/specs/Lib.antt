pub mod Ending
pub mod Worker
pub mod Passes
pub mod Opened
pub mod Slots
pub mod Met
pub mod Served
