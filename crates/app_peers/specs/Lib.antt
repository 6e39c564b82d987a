pub mod Peers
pub mod Parts
