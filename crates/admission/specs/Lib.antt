pub mod Access
pub mod Barred
