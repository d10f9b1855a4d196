-- What proofs cite of std, of lower crates and of this crate's definitions, passed on from one place. Declares nothing.
pub use Rattle.std.proofs.Common.{List, None, Some, false, refl, sym, true, true≢false, ℕ, ◌≡◌}
pub use Rattle.lw_base.proofs.Common.{IsWellFormedHead, TestHead}
pub use Rattle.lw_litmus.specs.Conflicts.{is_same_location, operations_conflict}
pub use Rattle.lw_litmus.specs.Flow.{IsFlowPathFrom, IsFlowSuccessor}
pub use Rattle.lw_litmus.specs.Languages.{Language}
pub use Rattle.lw_litmus.specs.Limits.{most_instructions, most_statements}
pub use Rattle.lw_litmus.specs.Operands.{operand_numbers, operand_registers}
pub use Rattle.lw_litmus.specs.Operations.{IsSuccessor, branch_target, falls_through, guard_holds, is_fence}
pub use Rattle.lw_litmus.specs.Operations.{is_load, is_locked, is_store, location_of, needs_empty_buffer}
pub use Rattle.lw_litmus.specs.Operations.{numbers_of, registers_of, writes, written_change}
pub use Rattle.lw_litmus.specs.Programs.{x86_language, x86_operation}
pub use Rattle.lw_litmus.specs.Sources.{source_language, source_operation}
pub use Rattle.lw_litmus.specs.Tests.{SourceTest, Test, X86Test, test_of}
pub use Rattle.lw_litmus.specs.Views.{program_of, source_of}
pub use Rattle.lw_litmus.specs.WellFormed.{IsWellFormed, IsWellFormedStatement, IsWellFormedThread}
pub use Rattle.lw_litmus.specs.WellFormedTests.{IsWellFormedProgram, IsWellFormedSource}
pub use Rattle.lw_litmus.specs.WellScoped.{HasInitialWords, IsWellScoped, IsWellScopedThread}
pub use Rattle.lw_litmus.specs.WellScopedTests.{IsWellScopedProgram, IsWellScopedSource}
pub use Rattle.lw_litmus.specs.declared.operation.Operation.{Operation}
pub use Rattle.lw_litmus.specs.declared.operation.Operation.TheVariants.{Branch, Compare, Fence, Load, Set}
pub use Rattle.lw_litmus.specs.declared.operation.Operation.TheVariants.{Store, Sum}
