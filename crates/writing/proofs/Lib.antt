pub use Rattle.form.proofs.Refusals
pub mod Blocks
pub mod Search
pub mod One
