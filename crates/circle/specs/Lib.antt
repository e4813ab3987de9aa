pub mod Order
pub mod LastTurn
pub mod Table
