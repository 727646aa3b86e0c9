pub mod Entries
pub mod Segments
pub mod Views
pub mod Listing
pub mod Past
pub mod Journals
pub mod Keeping
