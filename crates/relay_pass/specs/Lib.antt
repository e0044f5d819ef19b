pub mod Counts
pub mod Came
pub mod Ring
pub mod Publishes
pub mod Takes
pub mod Passes
pub mod Carried
