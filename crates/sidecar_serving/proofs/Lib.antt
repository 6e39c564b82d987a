mod Crossings
mod Sessions
mod Doings
mod Passes
mod Openings
mod Ran
mod Meetings
mod Whole
