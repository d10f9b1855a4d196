-- `search_states` runs a search to its end. The run says that each found state was expanded, or that more states than the budget were
-- found; both follow from the invariant of a search that has just started.
use Rattle.lw_search.proofs.Common.{◌≡◌, ◌∙◌, err_from_is_err_and, sym, program_of, SearchFault}
use Rattle.lw_search.proofs.Reachable.{visits-found, ExceedsBudget-of_found}
use Rattle.lw_search.specs.declared.fault.SearchFault.TheVariants as fault
use Rattle.lw_search.proofs.list.search_states.Goals as goal

-- A refusal of memory is not that the budget is exceeded.
not-Budget-if_memory : (f : SearchFault) → f ≡ fault.Memory → f ≡ fault.Budget → ⊥
not-Budget-if_memory f memory budget = let clash = sym memory ∙ budget in absurd cc

pub run-requires-clause-kept : goal.run-requires-clause-kept
run-requires-clause-kept g c = rw (← c.in_ok-search.ensures.program) at c.in_ok-search.ensures.kept

pub returns-then-not-branch-clause-budget : goal.returns-then-not-branch-clause-budget
returns-then-not-branch-clause-budget g c = λ e.
    let test = program_of c.args.program.now in
    let progress = rw (c.if-not-branch.true, c.in_ok-search.ensures.program) at c.in_ok-run.ensures.progress in
    let started = c.in_ok-search.ensures.started in
    let a = progress _ started.0 started.1 in
    ExceedsBudget-of_found test c.run.new.self.tables c.run.new.self.states a.0 c.args.budget a.1 a.2 a.3

pub returns-clause-finished : goal.returns-clause-finished
returns-clause-finished g c =
    let progress = rw (c.if-not-branch.false, c.in_ok-search.ensures.program) at c.in_ok-run.ensures.progress in
    let started = c.in_ok-search.ensures.started in
    progress.0 _ started.0 started.1

pub returns-clause-visited : goal.returns-clause-visited
returns-clause-visited g c =
    let progress = rw (c.if-not-branch.false, c.in_ok-search.ensures.program) at c.in_ok-run.ensures.progress in
    let started = c.in_ok-search.ensures.started in
    let all = progress.0 _ started.0 started.1 in
    visits-found (program_of c.args.program.now) c.run.new.self.tables c.run.new.self.states all.0 all.1

pub returns-clause-within : goal.returns-clause-within
returns-clause-within g c =
    let progress = rw (c.if-not-branch.false, c.in_ok-search.ensures.program) at c.in_ok-run.ensures.progress in progress.1

pub returns-in_err-run-clause-budget : goal.returns-in_err-run-clause-budget
returns-in_err-run-clause-budget g c =
    let p = err_from_is_err_and c.from_residual-in_err-run.result c.from_residual-in_err-run.ensures.1 in
    rw p.1 (λ e. absurd (not-Budget-if_memory _ p.2 e))
