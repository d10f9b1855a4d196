-- Law: at most one fault of a cell is true of a text. The text has one frame and one list of cells with
-- positions; both are exchanged by `subst` until the two faults are of the same cells, where each language's
-- law says that there is at most one.
use Rattle.lw_bench.proofs.Common.{subst, sym, TestFrame, CellFaultIsTrueIn}
use Rattle.lw_bench.proofs.LitmusTests.{cell_fault-unique}
use Rattle.lw_bench.proofs.litmus_test.a_text_has_one_cell_fault.Goals as goal

pub returns : goal.returns
returns c text f g p q =
    cell_fault-unique c.source_cells_have_one_fault.ensures.one_fault c.x86_cells_have_one_fault.ensures.one_fault
    p.frame.head.arch p.frame.head.locs p.cells f g p.not_out_of_memory q.not_out_of_memory p.cause
    (subst (λ cells. CellFaultIsTrueIn p.frame.head.arch p.frame.head.locs cells g)
    (sym (c.a_text_has_its_cells_once.ensures text p.cells q.cells p.has_cells q.has_cells))
    (subst (λ (frame : TestFrame). CellFaultIsTrueIn frame.head.arch frame.head.locs q.cells g)
    (sym (c.a_text_has_one_frame.ensures text p.frame q.frame p.has_frame q.has_frame)) q.cause))
