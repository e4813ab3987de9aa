pub mod Encode
pub mod Test
pub mod Calls
