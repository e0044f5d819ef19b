pub mod Answers
pub mod Pages
pub mod Policies
