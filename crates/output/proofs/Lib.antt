pub mod Lines
pub mod One
pub mod Back
