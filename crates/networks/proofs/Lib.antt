pub mod Addresses
pub mod Binary
pub mod Groups
pub mod Parts
pub mod Peers
pub mod Reading
