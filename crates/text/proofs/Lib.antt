pub mod Writes
pub mod Lines
pub mod One
