pub mod Methods
pub mod Parameters
pub mod Path
pub mod Refusals
pub mod Route
pub mod Routers
pub mod Table
