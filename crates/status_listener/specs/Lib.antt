pub mod Accepting
pub mod Peer
pub mod Phase
pub mod Visits
