-- What a source test is in x86, compiled or with other fences: that it is well-scoped, and which outcomes it has.
use Rattle.lw_fence.proofs.Common.{IsWellScopedSource, IsWellScopedProgram, ◌↔◌, ℕ, List, [], Bool, refl}
use Rattle.lw_fence.proofs.Common.{FinalState, SourceOutcome, initial_state, SourceTest, X86Test, flat_memory}
use Rattle.lw_fence.proofs.Common.{IsMachineOutcome, IsCompiled, IsCompiledWith, compiled_schedule}
use Rattle.lw_fence.proofs.Endings.{CanTerminate-well_scoped}
use Rattle.lw_fence.proofs.MachineToSource.{SourceOutcome-of_machine}
use Rattle.lw_fence.proofs.CodeLayout.{LaidOut-with_fences}
use Rattle.lw_fence.proofs.Programs.{IsWellScopedProgram-laid_out}
use Rattle.lw_fence.proofs.SourceToMachine.{ReplaysTo-laid_out, schedule_replays}
-- A well-scoped source has a compiled program, any source at most one; that is well-scoped, and of a well-formed source well-formed.
pub use Rattle.lw_fence.proofs.OneProgram.{IsCompiled-unique}
pub use Rattle.lw_fence.proofs.SomeProgram.{IsCompiled-exists}
pub use Rattle.lw_fence.proofs.Programs.{IsWellFormedProgram-compiled, IsWellScopedProgram-compiled}
-- Where no statement needs a fence, it is the program without fences.
pub use Rattle.lw_fence.proofs.NoFence.{IsCompiled-iff_without_fences}
-- With more fences it is the one with fewer, with MFENCEs inserted.
pub use Rattle.lw_fence.proofs.MoreFences.{HasInsertedFences-more_fences, AreSubset-nil}

-- What a source is compiled to has over flat memory exactly the outcomes of its source.
pub IsMachineOutcome-compiled_iff : (s : SourceTest) (p : X86Test) (starts : List (List ℕ)) (o : FinalState)
    → IsWellScopedSource s
    → IsCompiled s p starts
    → IsMachineOutcome flat_memory p p.head.init_words o ↔ SourceOutcome s o
IsMachineOutcome-compiled_iff s p starts o well_scoped compiled = (
  SourceOutcome-of_machine s p starts o well_scoped compiled,
  λ run. (compiled_schedule s.threads starts run.0 (initial_state s), schedule_replays p run.0 o well_scoped compiled run.1),
)

-- What a well-scoped source is in x86 with any fences is a well-scoped program.
pub IsWellScopedProgram-with_fences : (fences : List (List Bool)) (s : SourceTest) (p : X86Test) (starts : List (List ℕ))
    → IsWellScopedSource s
    → IsCompiledWith fences s p starts
    → IsWellScopedProgram p
IsWellScopedProgram-with_fences fences s p starts well_scoped compiled =
    IsWellScopedProgram-laid_out s p starts well_scoped (LaidOut-with_fences fences s p starts compiled)

-- Each outcome of a source test is one of its x86 program with any fences.
pub IsMachineOutcome-of_source : (fences : List (List Bool)) (s : SourceTest) (p : X86Test) (starts : List (List ℕ))
    (o : FinalState)
    → IsWellScopedSource s
    → IsCompiledWith fences s p starts
    → SourceOutcome s o
    → IsMachineOutcome flat_memory p p.head.init_words o
IsMachineOutcome-of_source fences s p starts o well_scoped compiled run = (
  compiled_schedule s.threads starts run.0 (initial_state s),
  ReplaysTo-laid_out s p starts run.0 well_scoped (LaidOut-with_fences fences s p starts compiled) run.1,
)

-- A well-scoped x86 test has at least one outcome over flat memory.
pub machine_outcome-exists : (p : X86Test)
    → IsWellScopedProgram p
    → (o : FinalState) × IsMachineOutcome flat_memory p p.head.init_words o
machine_outcome-exists p well_scoped =
    let e = CanTerminate-well_scoped p well_scoped [] _ refl in
    (_, (e.more, record { end = e.end; ran = e.ran; final = e.final; outcome_is = refl }))
