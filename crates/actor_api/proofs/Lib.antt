mod Stepped
mod Going
mod Waiting
mod Taken
