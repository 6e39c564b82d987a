pub mod Named
pub mod Policies
pub mod Readers
pub mod Policy
pub mod Resiliency
pub mod Shown
pub mod Join
