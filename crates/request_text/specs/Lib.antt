pub mod Methods
pub mod Fields
pub mod Texts
pub mod Faults
pub mod Sending
