pub mod Counting
pub mod Counts
pub mod Header
pub mod Ordered
pub mod Tracks
