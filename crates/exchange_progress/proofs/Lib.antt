mod Comes
mod Pieces
