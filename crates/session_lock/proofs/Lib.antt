pub mod Places
pub mod Holding
pub mod Spared
pub mod Played
pub mod Standing
pub mod Requested
mod Bare
