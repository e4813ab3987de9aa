pub mod Walk
pub mod Output
pub mod Refusals
pub mod Sound
pub mod One
