pub mod Capped
pub mod Counting
pub mod Endings
pub mod Handing
pub mod Incoming
pub mod Reporting
