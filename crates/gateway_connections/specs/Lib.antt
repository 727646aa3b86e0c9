pub mod Inboxes
pub mod Inlets
pub mod Readers
pub mod Reads
pub mod Rows
