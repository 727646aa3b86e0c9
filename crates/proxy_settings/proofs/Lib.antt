pub mod Tables
pub mod FirstOnes
pub mod Setups
pub mod Files
