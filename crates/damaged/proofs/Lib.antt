pub mod Taken
pub mod Kept
pub mod Told
pub mod Facts
