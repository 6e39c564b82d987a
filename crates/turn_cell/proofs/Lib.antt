mod Ends
pub mod Growing
pub mod Histories
mod Joins
mod Known
mod Leaves
pub mod Lists
mod Meets
mod Moved
pub mod Passes
mod Ran
mod Rested
mod Splits
mod Steps
mod Told
mod Turns
