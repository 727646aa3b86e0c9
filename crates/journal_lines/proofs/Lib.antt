pub mod Starring
