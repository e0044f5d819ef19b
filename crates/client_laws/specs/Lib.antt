pub mod Sent
pub mod Publishing
pub mod Phases
pub mod Course
pub mod Clients
