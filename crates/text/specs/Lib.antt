pub use Rattle.wording.specs.Text
pub mod Line
