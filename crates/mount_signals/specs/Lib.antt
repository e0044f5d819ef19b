pub mod Marks
pub mod RecordingMounts
