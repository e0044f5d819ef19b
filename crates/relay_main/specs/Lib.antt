pub mod Pages
pub mod Served
pub mod Tasks
