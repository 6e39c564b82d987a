pub mod Breaker
pub mod Course
pub mod Fits
pub mod Laws
pub mod Present
