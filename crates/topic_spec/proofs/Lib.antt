mod Aimed
mod Gathering
mod Members
mod Pathing
mod Readings
mod Sound
mod Steps
mod Unruled
