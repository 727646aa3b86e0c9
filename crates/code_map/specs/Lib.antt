pub mod Methods
pub mod Statuses
pub mod Codes
