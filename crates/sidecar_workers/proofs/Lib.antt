pub mod Places
pub mod Rounds
pub mod StopJoins
pub mod StopSplits
pub mod StopSteps
