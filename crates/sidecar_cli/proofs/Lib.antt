mod Beginning
mod Causes
mod Counted
mod Countings
mod Drained
mod Fits
mod Fitting
mod Journals
mod Lines
mod Noted
mod Promises
mod ServeCauses
mod Serves
mod Shown
mod Refusing
pub mod Drilled
pub mod DrillCauses
