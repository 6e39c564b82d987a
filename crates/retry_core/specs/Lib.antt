pub mod Bound
pub mod BreakerPolicy
pub mod RetryPolicy
pub mod RetryRun
pub mod Trip
pub mod TripText
