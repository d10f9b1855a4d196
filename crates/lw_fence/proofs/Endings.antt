-- Each run of the compiled program over flat memory can be brought to its end. The compiled program is
-- well-scoped, so the law of lw_tso applies.
use Rattle.lw_fence.proofs.Common.{IsWellScopedProgram, IsWellScopedSource, ℕ, List, length, refl, arith}
use Rattle.lw_fence.proofs.Common.{Event, flat_memory, SourceTest, X86Test, CanTerminate, MachineState}
use Rattle.lw_fence.proofs.Common.{MachineRunsTo, initial_machine_state, CanTerminate-reached, IsCompiled}
use Rattle.lw_fence.proofs.Common.{words_invariant, words_lawful}
use Rattle.lw_fence.proofs.Programs.{IsWellScopedProgram-compiled}

-- From each state that a run of a well-scoped program over flat memory reaches, further events lead to a final state.
pub CanTerminate-well_scoped : (p : X86Test)
    → IsWellScopedProgram p
    → (events : List Event) (s : MachineState (List ℕ))
    → MachineRunsTo flat_memory p.threads events (initial_machine_state p p.head.init_words) s
    → CanTerminate flat_memory p.threads s
CanTerminate-well_scoped p well_scoped events s ran =
    CanTerminate-reached flat_memory (words_invariant (length p.threads)) (words_lawful (length p.threads)) p well_scoped
    p.head.init_words events s (record { sound = tt; cpus = omega arith; words = refl }) ran

-- From each state that a run of a program compiled from a well-scoped source reaches over flat memory, further events lead to a
-- final state.
pub CanTerminate-compiled : (s : SourceTest) (p : X86Test) (starts : List (List ℕ))
    → IsWellScopedSource s
    → IsCompiled s p starts
    → (events : List Event) (end : MachineState (List ℕ))
    → MachineRunsTo flat_memory p.threads events (initial_machine_state p p.head.init_words) end
    → CanTerminate flat_memory p.threads end
CanTerminate-compiled s p starts well_scoped compiled =
    CanTerminate-well_scoped p (IsWellScopedProgram-compiled s p starts well_scoped compiled)
