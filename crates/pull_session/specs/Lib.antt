pub mod Watches
pub mod Tries
pub mod Passing
pub mod Asks
pub mod Blocks
