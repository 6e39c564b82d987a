pub mod Exchanged
pub mod Session
pub mod Ends
pub mod Sending
pub mod Answering
pub mod Served
pub mod Going
