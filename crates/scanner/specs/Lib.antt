pub mod Piece
pub mod Reader
