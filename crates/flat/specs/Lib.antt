pub mod Levels
pub mod Flat
pub mod Demand
