pub mod Blanks
pub mod Cuts
pub mod Lines
pub mod Names
pub mod Numbers
pub mod Quotes
