pub mod Marked
pub mod Search
pub mod Refusals
pub mod Leaves
pub mod One
