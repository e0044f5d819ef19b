pub mod AreParts
pub mod Cuts
pub mod Digits
pub mod LineEnds
pub mod Lists
pub mod Parts
pub mod Trims
