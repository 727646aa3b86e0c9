pub mod Flights
pub mod Scenes
pub mod Stories
pub mod Arriving
pub mod Ticks
pub mod Promises
pub mod Reads
pub mod Kept
