pub mod Coming
pub mod Pieces
