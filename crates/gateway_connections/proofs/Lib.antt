pub mod Holding
pub mod Keeping
pub mod Listing
pub mod Nothing
pub mod Noting
pub mod Placing
pub mod Reading
pub mod Searching
