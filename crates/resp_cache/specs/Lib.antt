pub mod Names
pub mod Rings
pub mod Slots
pub mod Stored
pub mod Stores
pub mod Tables
pub mod Uses
