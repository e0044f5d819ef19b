pub mod Exchanges
pub mod Announcing
pub mod Leaving
pub mod Fetching
pub mod Taking
pub mod Stretches
pub mod Talks
