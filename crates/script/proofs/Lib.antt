pub mod Laws
pub mod Lines
pub mod One
pub mod Cases
