pub mod Ends
pub mod Lines
pub mod Moving
pub mod Readiness
