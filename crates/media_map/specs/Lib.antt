pub mod Texts
pub mod MediaTypes
pub mod Views
pub mod Formats
pub mod Accepting
pub mod Picking
pub mod Tallying
pub mod Faults
