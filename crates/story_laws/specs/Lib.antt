pub mod Lateness
pub mod Networks
pub mod Arriving
pub mod Executions
pub mod Posts
pub mod Reads
pub mod Orders
