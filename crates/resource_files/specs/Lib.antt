pub mod Refusals
pub mod Added
pub mod Read
pub mod Usual
pub mod Steps
