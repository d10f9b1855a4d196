-- At each round `seen` has, after what it had at the start, the thread's listed registers before the index.
use Rattle.lw_text.proofs.Common.{◌≡◌, ◌++◌, map, filter, range_with_len, Register, is_listed}
use Rattle.lw_text.proofs.seen.push_listed_registers.Given as goal

abbrev pub invariant-loop-reg : goal.invariant-loop-reg
invariant-loop-reg g l =
    l.seen ≡ l.fn.seen ++ filter (is_listed l.sites) (map (λ r. Register l.cpu r) (range_with_len 0 l.reg-index))
