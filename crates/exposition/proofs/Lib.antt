pub mod Lines
pub mod Reading
pub mod Samples
pub mod Times
pub mod Utf8
