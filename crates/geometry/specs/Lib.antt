pub mod TagMemory
pub mod Shape
