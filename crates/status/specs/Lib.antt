pub mod Names
pub mod Silences
