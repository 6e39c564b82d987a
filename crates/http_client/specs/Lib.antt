pub mod Asked
pub mod Replies
pub mod Taken
pub mod Written
