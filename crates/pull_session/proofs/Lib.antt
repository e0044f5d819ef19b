pub mod Blocks
pub mod Putting
pub mod Units
pub mod Losing
pub mod TargetReplies
