pub mod Back
pub mod Named
pub mod Ways
pub mod Unchanged
pub mod Shown
pub mod One
