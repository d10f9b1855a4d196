-- What proofs of other crates cite: what one answer about an operation says of another, and that a well-formed test is well-scoped.
pub mod Kinds
pub mod WellScoped
