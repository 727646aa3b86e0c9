pub mod Limits
pub mod Located
pub mod Means
pub mod Showings
pub mod Typings
pub mod Writes
