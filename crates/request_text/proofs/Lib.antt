pub mod Joining
pub mod Plain
pub mod PlainFields
pub mod Messages
