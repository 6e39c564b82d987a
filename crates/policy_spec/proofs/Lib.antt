pub mod Found
pub mod Said
pub mod Sound
pub mod Refused
pub mod Joined
pub mod Reading
