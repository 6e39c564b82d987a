pub mod Slots
pub mod StopPlay
pub mod StopRule
pub mod StopSeat
pub mod Works
