pub mod Limits
pub mod Lengths
pub mod Places
pub mod Levels
pub mod Groups
pub mod One
pub mod Tags
pub mod Shapes
