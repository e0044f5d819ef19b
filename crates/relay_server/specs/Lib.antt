pub mod Leavings
pub mod Refusals
