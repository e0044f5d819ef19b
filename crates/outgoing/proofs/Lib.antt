pub mod Blocks
pub mod Bounding
pub mod Dropping
pub mod Keeping
pub mod Running
pub mod Texts
