pub mod Bytes
pub mod Places
pub mod Spelling
pub mod Utf8
