pub mod Channels
pub mod Commands
pub mod Pulling
pub mod Serving
pub mod Stopping
