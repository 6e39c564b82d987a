pub mod Shapes
pub mod Counts
pub mod Verdicts
pub mod Retrying
pub mod SampleEvent
pub mod Written
pub mod Missed
pub mod Refused
pub mod Fitting
mod Assembled
mod Choosing
mod Early
mod Posted
mod Raised
mod Settled
mod Shown
mod Stepped
mod Takings
