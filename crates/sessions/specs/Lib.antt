pub mod Asking
pub mod Devices
pub mod Serving
pub mod Steps
pub mod Telling
