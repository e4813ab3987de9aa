pub mod Chunk
pub mod Going
pub mod Ways
pub mod Texts
pub mod One
