pub mod Dues
pub mod GivenUps
pub mod Keeping
pub mod Places
pub mod Tables
pub mod Turns
