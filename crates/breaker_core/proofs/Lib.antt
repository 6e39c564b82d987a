pub mod Fitting
pub mod Histories
pub mod Reports
pub mod Steps
