pub mod Words
pub mod Fields
pub mod Answer
pub mod Seen
