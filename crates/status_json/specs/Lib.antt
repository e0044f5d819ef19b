pub mod Json
pub mod Keys
pub mod Serving
pub mod Status
pub mod Tracks
