pub mod Filled
pub mod Leaving
pub mod Named
