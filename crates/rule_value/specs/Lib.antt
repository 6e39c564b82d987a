pub mod Bytes
pub mod Codes
pub mod Stacks
pub mod Standing
pub mod Trees
pub mod Values
pub mod Wholes
