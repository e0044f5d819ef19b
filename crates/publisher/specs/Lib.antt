pub mod Rtp
pub mod Fates
pub mod FramesIn
