pub mod Late
pub mod Names
