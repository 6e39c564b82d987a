pub mod Blocks
pub mod Chars
pub mod InOrder
pub mod LaneTests
pub mod Ordered
pub mod Masks
pub mod SpellingLemmas
