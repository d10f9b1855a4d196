-- What proofs cite of std, of lower crates and of this crate's definitions, passed on from one place. Declares nothing.
pub use Rattle.lw_memory.specs.Content.{content_after_request, is_write, request_result, value_returned}
pub use Rattle.lw_memory.specs.Content.{words_after}
pub use Rattle.lw_memory.specs.Flat.{flat_memory}
pub use Rattle.lw_memory.specs.Memory.{IsEnabled, IsInRange, Memory, is_held, memory_of}
pub use Rattle.lw_memory.specs.SystemLaws.{Invariant, IsLawful, RequestEffect, invariant_of}
pub use Rattle.lw_memory.specs.laws.FlatLaws.{words_invariant, words_lawful}
