pub mod One
pub mod Phases
