-- `read_cells` promises the test that the frame says, or a true fault of a cell. Each arm passes on what the
-- reader of its language ensures. If that reader fails, the frame has no test of the other language either,
-- since its head names the language.
use Rattle.lw_bench.proofs.Common.{Err-clause_propagated}
use Rattle.lw_bench.proofs.LitmusTests.{no_test-if_no_source, no_test-if_no_program}
use Rattle.lw_bench.proofs.litmus_test.read_cells.Goals as goal

pub read_source-requires : goal.read_source-requires
read_source-requires g c = rw c.head.ensures at c.in-Source.is

pub read_program-requires : goal.read_program-requires
read_program-requires g c = rw c.head.ensures at c.in-X86.is

pub returns-in_ok-source-in-Source-clause-found : goal.returns-in_ok-source-in-Source-clause-found
returns-in_ok-source-in-Source-clause-found g c = c.in_ok-source-in-Source.ensures.found

pub returns-in_ok-program-in-X86-clause-found : goal.returns-in_ok-program-in-X86-clause-found
returns-in_ok-program-in-X86-clause-found g c = c.in_ok-program-in-X86.ensures.found

pub returns-in_err-source-in-Source-clause-fault : goal.returns-in_err-source-in-Source-clause-fault
returns-in_err-source-in-Source-clause-fault g c =
    Err-clause_propagated _ _ c.from_residual.ensures.1
    (λ other. no_test-if_no_source _ (rw c.head.ensures at c.in-Source.is) (c.in_err-source-in-Source.ensures.fault other))

pub returns-in_err-program-in-X86-clause-fault : goal.returns-in_err-program-in-X86-clause-fault
returns-in_err-program-in-X86-clause-fault g c =
    Err-clause_propagated _ _ c.from_residual-in_err-program-in-X86.ensures.1
    (λ other. no_test-if_no_program _ (rw c.head.ensures at c.in-X86.is) (c.in_err-program-in-X86.ensures.fault other))
