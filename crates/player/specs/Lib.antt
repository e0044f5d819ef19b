pub mod FramesOut
pub mod Shown
