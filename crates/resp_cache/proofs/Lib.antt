pub mod Ringing
pub mod Room
pub mod Lists
pub mod Apart
pub mod Keeping
mod Walking
pub mod Lasting
pub mod Linking
pub mod Looking
pub mod Naming
pub mod Orders
pub mod Slotted
pub mod Tabling
