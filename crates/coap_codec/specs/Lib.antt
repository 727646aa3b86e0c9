pub mod Spelling
pub mod Faults
pub mod Reading
pub mod Tokens
pub mod Writing
pub mod Values
pub mod Options
pub mod Recognition
