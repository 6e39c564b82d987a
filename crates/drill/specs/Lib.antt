pub mod Requests
pub mod Seeded
pub mod Answers
pub mod Parts
pub mod Devices
