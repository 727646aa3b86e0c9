pub mod Newer
pub mod Watches
pub mod Hints
pub mod Due
pub mod Order
