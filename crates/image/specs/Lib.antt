pub use Rattle.form.specs.Encode
pub use Rattle.form.specs.Test
pub use Rattle.form.specs.Calls
