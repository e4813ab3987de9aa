pub mod Trackers
pub mod Turns
pub mod Inverse
pub mod One
