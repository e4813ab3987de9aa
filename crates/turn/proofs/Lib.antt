pub mod Does
pub mod Ways
pub mod One
