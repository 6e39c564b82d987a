pub mod Runs
pub mod Trips
pub mod TripLoops
pub mod TripTexts
