pub mod Groups
pub mod BitsOf
pub mod Blocks
pub mod Zero
pub mod One
