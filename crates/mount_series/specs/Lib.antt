pub mod Series
pub mod Sums
