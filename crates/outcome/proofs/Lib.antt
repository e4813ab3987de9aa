pub mod Rule
pub mod One
