pub mod Place
pub mod One
