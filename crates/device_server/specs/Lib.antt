pub mod Kinds
pub mod Rows
pub mod Sending
pub mod Turns
