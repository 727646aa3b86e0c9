pub mod Failures
pub mod Rules
