pub mod Views
pub mod Samples
