pub mod Away
pub mod Figures
pub mod Names
pub mod Refusals
pub mod Reports
pub mod Retries
pub mod Times
pub mod Wanted
