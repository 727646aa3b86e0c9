mod Backs
mod Copied
mod Grounded
mod Keys
mod Known
mod Looked
mod Marked
mod Placed
mod Replied
pub mod CallerLemmas
