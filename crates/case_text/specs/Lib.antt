pub mod Piece
pub mod Escape
pub mod Reading
pub mod Section
pub mod Lines
