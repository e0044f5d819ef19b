pub mod Addresses
pub mod Bits
pub mod Faults
pub mod Groups
pub mod Networks
pub mod Peers
pub mod Reading
pub mod Texts
