pub mod ByKind
pub mod Single
pub mod Laid
mod Rewritten
