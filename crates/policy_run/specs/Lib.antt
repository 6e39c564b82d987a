pub mod Guard
pub mod BreakerAt
pub mod Event
pub mod Effects
pub mod Turn
pub mod Attempts
pub mod RefusalText
