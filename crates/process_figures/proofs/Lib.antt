pub mod Closing
pub mod Parts
