-- Contracts of other crates may cite all of these but `Piece`, which is of the functions inside.
pub mod Lexeme
pub mod Surrogates
pub mod Scan
pub mod Unescape
pub mod Piece
pub mod Spelling
pub mod Productions
pub mod Words
