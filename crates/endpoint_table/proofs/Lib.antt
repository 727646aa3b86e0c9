pub mod CallerLemmas
mod Copies
mod Deeds
mod Drained
mod DuePlaces
mod DueRows
mod Finding
mod Given
mod GivenRows
mod KeptRows
mod Links
mod Marking
mod Ticked
mod TickedDue
mod TimerOrder
mod TimerSearch
mod Timers
mod TimersSet
