pub mod Salvage
pub mod Walk
pub mod Goes
