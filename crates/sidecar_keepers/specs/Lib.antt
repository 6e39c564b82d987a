pub mod Given
pub mod Kinds
pub mod Made
pub mod Refused
pub mod Runs
pub mod Stores
