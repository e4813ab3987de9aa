pub mod Taken
pub mod Theorems
