pub mod Exchange
pub mod Publishing
pub mod Seat
pub mod Talk
pub mod Taking
