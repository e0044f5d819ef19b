pub mod Devices
pub mod Frame
pub mod Gatherings
pub mod Payloads
