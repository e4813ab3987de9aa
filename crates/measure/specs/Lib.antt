pub mod Pair
pub mod Sheet
