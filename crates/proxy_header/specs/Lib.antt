pub mod Beginnings
pub mod Blocks
pub mod Clients
pub mod Faults
pub mod Fields
pub mod Headers
pub mod Lines
pub mod Readings
