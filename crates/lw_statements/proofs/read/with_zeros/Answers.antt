-- `with_zeros` promises that each location without an initial word starts with 0, or passes on the fault.
-- Success is what `pad_with_zeros` ensures; the other fault is that memory ran out.
use Rattle.lw_statements.proofs.Common.{inl, inr, ap, ◌∙◌, ◌++◌, ◌-◌, length, refl, replicate}
use Rattle.lw_statements.proofs.Common.{Err-clause_known}
use Rattle.lw_statements.proofs.Exits.{MatchResult-out_of_memory}
use Rattle.lw_statements.proofs.read.with_zeros.Goals as goal

pub returns-in_err-threads : goal.returns-in_err-threads
returns-in_err-threads g c = Err-clause_known _ _ _ c.from_residual.ensures.1 (inl c.in_err-threads.was)

pub returns-in_err-pad_with_zeros : goal.returns-in_err-pad_with_zeros
returns-in_err-pad_with_zeros g c =
    MatchResult-out_of_memory _ _ _ c.from_residual-in_err-pad_with_zeros.ensures.1 (λ f memory first. inr (first, memory))

pub returns : goal.returns
returns g c =
    let old = c.args.head.now.init_words in
    let words = c.in_ok-pad_with_zeros.ensures ∙ ap (λ n. old ++ replicate (n - length old) 0) c.len-len.ensures.len in
    ((rw words refl, c.len-len.ensures.table), c.in_ok-threads.was)
