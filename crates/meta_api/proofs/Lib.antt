pub mod Causes
pub mod Fitting
pub mod Noting
pub mod Placed
