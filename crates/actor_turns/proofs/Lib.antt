pub mod Lists
pub mod Keeping
pub mod Coming
pub mod Following
