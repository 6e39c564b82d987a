pub mod Cuts
pub mod Read
