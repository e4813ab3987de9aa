pub mod PlainReading
pub mod True
