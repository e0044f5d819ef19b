pub mod Endings
pub mod QuietTimes
pub mod Roles
pub mod Snapshots
