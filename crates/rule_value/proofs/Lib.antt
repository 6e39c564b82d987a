mod Answering
mod Computing
pub mod Heights
pub mod Membership
pub mod Inside
mod Numbers
mod Stacks
mod Texts
