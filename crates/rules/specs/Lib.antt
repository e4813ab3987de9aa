pub mod State
pub mod Copies
pub mod Whole
pub mod Place
pub mod Step
pub mod Copied
pub mod Calls
pub mod Run
