mod Following
mod Ordering
mod Reaching
mod Stepping
mod EachTrack
