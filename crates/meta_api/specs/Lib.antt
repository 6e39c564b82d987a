pub mod Book
pub mod History
pub mod Notes
pub mod Body
pub mod Laws
pub mod Fits
