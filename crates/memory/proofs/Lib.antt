pub mod Parts
pub mod Sized
pub mod Reading
pub mod Truth
pub mod Words
pub mod Clearing
pub mod Worked
pub mod One
