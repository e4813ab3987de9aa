pub mod Answer
pub mod Transfers
pub mod Tracker
