pub mod Numbers
pub mod Tests
pub mod Chains
pub mod One
