pub mod Filling
pub mod One
