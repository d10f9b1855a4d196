-- `compile_text` promises a run that writes the compilation. It is the run of `carry_out` for this task,
-- whose output is weakened to the output without a status (`IsRun-weakened`); a fault is passed on (`IsRun-same_fault`).
use Rattle.lw_bench.proofs.Common.{err_from_is_err_and}
use Rattle.lw_bench.proofs.Runs.{IsRun-same_fault, IsRun-weakened}
use Rattle.lw_bench.proofs.run.compile_text.Goals as goal

pub returns-in_err-carry_out : goal.returns-in_err-carry_out
returns-in_err-carry_out g c =
    let p = err_from_is_err_and c.from_residual.result c.from_residual.ensures.1 in
    rw (p.1, p.2) (IsRun-same_fault _ _ _ _ _ _ _ _ _ _ c.in_err-carry_out.ensures)

pub returns : goal.returns
returns g c = IsRun-weakened _ _ _ _ _ _ _ _ _ _ _ (λ test made is. is.0) c.in_ok-carry_out.ensures
