pub mod Rows
pub mod Sound
pub mod Rules
pub mod Records
pub mod Refusals
pub mod Broken
