pub mod Latest
pub mod First
pub mod Noticing
pub mod Due
pub mod Hinted
