-- `fault_line` promises that the line is the printed text of the fault. The three kinds with a place are the
-- line of `placed_line`, with the code and the name of the cause put in; the other kinds are constants.
use Rattle.lw_bench.proofs.fault.fault_line.Goals as goal

pub returns-in-Text : goal.returns-in-Text
returns-in-Text g c = rw c.in-Text.is (rw (c.code.ensures, c.name.ensures) at c.placed_line.ensures)

pub returns-in-Cell : goal.returns-in-Cell
returns-in-Cell g c = rw c.in-Cell.is (rw (c.code-in-Cell.ensures, c.name-in-Cell.ensures) at c.placed_line-in-Cell.ensures)

pub returns-in-Schedule : goal.returns-in-Schedule
returns-in-Schedule g c =
    rw c.in-Schedule.is (rw (c.code-in-Schedule.ensures, c.name-in-Schedule.ensures) at c.placed_line-in-Schedule.ensures)
