pub mod CallerLemmas
pub mod WholeBlocks
pub mod Blocks
pub mod Answering
pub mod Sent
pub mod Fetching
pub mod Judging
pub mod OneMessage
