pub mod Buffers
pub mod Items
pub mod Kept
pub mod Marks
pub mod Queues
pub mod Rooms
pub mod Runs
