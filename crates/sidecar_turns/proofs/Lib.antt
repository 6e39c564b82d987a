pub mod Over
pub mod Linked
mod Placed
mod Gathered
mod Periods
mod CountedOnce
mod InOrder
mod Turned
mod Ended
mod Paused
mod Ticked
mod Parts
mod Once
mod Samples
