pub mod Places
pub mod Invoking
