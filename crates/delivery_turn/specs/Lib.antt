pub mod Settling
pub mod Posting
pub mod Delivery
pub mod Stepping
pub mod Turning
pub mod Kinds
pub mod Samples
