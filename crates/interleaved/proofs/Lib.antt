pub mod Pieces
pub mod Frames
pub mod Gathered
