pub use Rattle.lw_litmus.specs.Programs
pub use Rattle.lw_litmus.specs.Views
pub mod Spelling
pub mod inner
pub mod Grammar
pub mod CanonicalTexts
pub mod Texts
