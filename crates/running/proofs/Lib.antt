pub mod Ways
pub mod Going
pub mod Runs
pub mod Answers
pub mod One
