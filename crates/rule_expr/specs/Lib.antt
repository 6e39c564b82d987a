pub mod Parts
pub mod Places
pub mod Quoted
pub mod Reading
pub mod Refusals
pub mod Rules
pub mod Walking
pub mod Walks
