pub mod Figures
pub mod Limits
pub mod Lines
pub mod Numbers
pub mod Stat
