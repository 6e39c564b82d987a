pub mod Decimals
pub mod Durations
