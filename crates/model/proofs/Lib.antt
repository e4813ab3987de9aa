pub mod Archive
pub mod One
