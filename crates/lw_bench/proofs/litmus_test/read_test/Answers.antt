-- `read_test` promises the test of the text, or a fault that is true of it. The interesting goals are the two
-- exits by `?`: what the callee ensures of its fault is put together to `ReadFaultIsTrue`, unless the cause
-- is memory.
use Rattle.lw_bench.proofs.Common.{arith, Err-clause_propagated, frame_of, placed_cells, grid_placed}
use Rattle.lw_bench.proofs.Common.{ReadFaultIsTrue}
use Rattle.lw_bench.proofs.DeviceFaults.{Err-injective}
use Rattle.lw_bench.proofs.FaultTruths.{holds-text_run_fault, holds-cell_run_fault}
use Rattle.lw_bench.proofs.FaultTruths.{IsNotDeviceFault-text_run_fault, IsNotDeviceFault-cell_run_fault}
use Rattle.lw_bench.proofs.litmus_test.read_test.Goals as goal

-- A fault of the frame, unless memory ran out, is a true fault of the text.
pub returns-in_err-frame-clause-fault : goal.returns-in_err-frame-clause-fault
returns-in_err-frame-clause-fault g c =
    let f = c.in_err-frame in
    Err-clause_propagated _ _ c.from_residual.ensures.1
    (holds-text_run_fault (ReadFaultIsTrue c.args.text.now) tt _ (λ known. record {
      none = f.ensures.fault known;
      place = f.ensures.place;
      too_long = λ long. Err-injective (f.ensures.too_long long);
      only_too_long = f.ensures.only_too_long;
      not_utf8 = λ short other. Err-injective (f.ensures.not_utf8 short other);
      only_not_utf8 = f.ensures.only_not_utf8;
      not_out_of_memory = known;
      fails = λ short encoded. f.ensures.fails short encoded known;
    }))

pub returns-in_err-frame-clause-device : goal.returns-in_err-frame-clause-device
returns-in_err-frame-clause-device g c = Err-clause_propagated _ _ c.from_residual.ensures.1 (IsNotDeviceFault-text_run_fault _)

-- A fault of a cell, unless memory ran out, is a true fault of the text's cells.
pub returns-in_err-read_cells-clause-fault : goal.returns-in_err-read_cells-clause-fault
returns-in_err-read_cells-clause-fault g c =
    Err-clause_propagated _ _ c.from_residual-in_err-read_cells.ensures.1
    (holds-cell_run_fault (ReadFaultIsTrue c.args.text.now) tt _ (λ known. record {
      frame = frame_of c.in_ok-frame.frame;
      has_frame = c.in_ok-frame.ensures.found;
      cells = placed_cells c.in_ok-frame.frame.cells;
      has_cells = c.in_ok-frame.ensures.cells;
      cells_are = grid_placed c.in_ok-frame.frame.cells;
      none = c.in_err-read_cells.ensures.fault known;
      place = omega (arith, c.in_err-read_cells.ensures.place, c.in_ok-frame.ensures.len);
      cause = c.in_err-read_cells.ensures.cause;
      not_out_of_memory = known;
    }))

pub returns-in_err-read_cells-clause-device : goal.returns-in_err-read_cells-clause-device
returns-in_err-read_cells-clause-device g c =
    Err-clause_propagated _ _ c.from_residual-in_err-read_cells.ensures.1 (IsNotDeviceFault-cell_run_fault _)
