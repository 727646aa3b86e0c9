pub mod CallerLemmas
mod Standing
mod Searching
mod Indexed
mod Outrun
mod Reading
mod Grouping
mod Seeking
mod Owning
mod Marking
mod Joined
mod Among
mod AnyRead
mod Leaving
mod Asks
