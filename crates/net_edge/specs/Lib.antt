pub mod AtHand
pub mod Calls
pub mod CallTimes
pub mod Patience
pub mod Room
pub mod Turns
