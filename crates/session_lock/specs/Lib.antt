pub mod Spares
pub mod Held
pub mod Entries
pub mod Books
pub mod Requests
pub mod Asks
