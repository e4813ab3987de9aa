pub use Rattle.form.proofs.Sound
pub use Rattle.form.proofs.Records
pub mod Kept
pub mod One
