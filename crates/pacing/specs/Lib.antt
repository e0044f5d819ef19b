pub mod Patiences
pub mod ReadRates
pub mod Rounds
pub mod Allowances
pub mod Retrying
pub mod Recent
