mod Cuts
mod Ending
mod Ends
mod Growing
mod Items
mod Gave
pub mod SoFar
mod Turns
