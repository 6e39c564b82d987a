pub mod Malformed
pub mod Given
pub mod Values
pub mod Asked
pub mod Requested
pub mod Binding
