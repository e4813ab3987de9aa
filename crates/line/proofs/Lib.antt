pub mod Words
pub mod Find
pub mod One
