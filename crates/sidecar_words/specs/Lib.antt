pub mod Spelling
pub mod Value
pub mod Meaning
pub mod Command
pub mod Found
pub mod Parts
