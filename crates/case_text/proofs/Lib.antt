pub mod Undone
pub mod Tokens
pub mod Marks
pub mod Joining
pub mod Shown
pub mod Broken
