pub mod Grammars
pub mod Cells
pub mod Faults
pub mod Operands
pub mod Spellings
pub mod Bindings
pub mod inner
