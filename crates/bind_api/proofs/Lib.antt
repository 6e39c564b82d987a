pub mod Nodes
pub mod Members
pub mod Following
pub mod Bodies
pub mod Hosts
pub mod Answering
