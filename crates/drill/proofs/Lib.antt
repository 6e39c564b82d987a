mod Whole
mod Words
mod Tallies
