-- The outcomes of a test of either language, and its x86 program.
use Rattle.std.specs.Prelude.{◌≡◌, ◌↔◌, ℕ, List}
use Rattle.lw_base.specs.Outcomes.{FinalState}
use Rattle.lw_base.specs.declared.event.Event.{Event}
use Rattle.lw_fence.specs.Compiling.{IsCompiled}
use Rattle.lw_tso_caches.specs.OverCaches.{OutcomeOverCaches, ReplaysToOverCaches}
use Rattle.lw_mesi.specs.declared.protocol.Protocol.{Protocol}
use Rattle.lw_memory.specs.Flat.{flat_memory}
use Rattle.lw_tso.specs.Runs.{IsMachineOutcome}
use Rattle.lw_interleaving.specs.Runs.{SourceOutcome}
use Rattle.lw_litmus.specs.Tests.{X86Test}
use Rattle.lw_bench.specs.LitmusTests.{LitmusTest, Of_source, Of_x86}

-- The outcomes of a test: of a source test those that it reaches by interleaving on one memory, of an x86 test those that the machine
-- reaches, with store buffers over one memory, over all schedules of steps and drains.
abbrev pub OutcomeOf : LitmusTest → FinalState → Type 0
OutcomeOf (Of_source test) = SourceOutcome test
OutcomeOf (Of_x86 test) = IsMachineOutcome flat_memory test test.head.init_words

-- The x86 program of a test: the compiled program of a source test, and an x86 test itself.
abbrev pub IsProgramRunFor : LitmusTest → X86Test → Type 0
IsProgramRunFor (Of_source test) program = (starts : List (List ℕ)) × IsCompiled test program starts
IsProgramRunFor (Of_x86 test) program = program ≡ test

-- The program is the test's, and reaches on the machine, over all schedules of steps and drains, exactly the test's outcomes.
pub record IsProgramOf (test : LitmusTest) (program : X86Test) : Type 0 where
  pub runs : IsProgramRunFor test program
  pub outcomes : (o : FinalState) → IsMachineOutcome flat_memory program program.head.init_words o ↔ OutcomeOf test o

-- The program reaches exactly the test's outcomes over caches of any protocol, over all steps, drains and evictions.
abbrev pub HasOverCaches : LitmusTest → X86Test → Type 0
HasOverCaches test program = (protocol : Protocol) (o : FinalState) → OutcomeOverCaches protocol program o ↔ OutcomeOf test o

-- The schedule takes the program to the outcome, over caches of any protocol.
abbrev pub ProgramReplaysTo : X86Test → List Event → FinalState → Type 0
ProgramReplaysTo program events o = (protocol : Protocol) → ReplaysToOverCaches protocol program events o
