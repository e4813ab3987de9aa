pub mod Word
pub mod Find
