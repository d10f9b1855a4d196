pub use Rattle.lw_litmus.specs.Sources
pub use Rattle.lw_litmus.specs.Views
pub mod Spelling
pub mod Grammar
pub mod inner
