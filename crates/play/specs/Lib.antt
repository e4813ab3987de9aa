pub mod Play
pub mod Lines
pub mod Seen
