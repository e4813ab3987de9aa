pub mod Refusals
pub mod Begun
pub mod One
