pub mod Exposition
pub mod Reading
