pub mod Choice
pub mod Bytes
pub mod Scan
pub mod Bits
pub mod Refusal
pub mod Count
