pub mod Sheets
pub mod Zero
pub mod Pairs
pub mod Examples
pub mod One
pub mod Tallies
