pub mod Composed
pub mod Asking
pub mod Turning
pub mod Stepping
pub mod Trying
