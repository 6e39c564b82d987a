pub mod Composed
pub mod Gathered
pub mod Listed
pub mod Pieces
pub mod Sent
