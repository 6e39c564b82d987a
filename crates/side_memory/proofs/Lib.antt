pub mod Backs
pub mod Lent
pub mod Places
pub mod Returned
pub mod Searched
