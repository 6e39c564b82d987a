mod Moved
mod Sending
mod Going
mod Over
