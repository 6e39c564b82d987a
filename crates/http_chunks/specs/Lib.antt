pub mod ChunkReading
pub mod ChunkSteps
pub mod Chunked
pub mod ContentSteps
pub mod Front
pub mod LinePlaces
