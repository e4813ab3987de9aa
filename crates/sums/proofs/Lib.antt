pub mod Words
pub mod Right
pub mod One
