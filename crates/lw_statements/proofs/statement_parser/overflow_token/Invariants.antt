-- At each round no token before the index names a ninth location.
use Rattle.lw_statements.proofs.Common.{ℕ, ◌<◌, IsOverflowSlot}
use Rattle.lw_statements.proofs.statement_parser.overflow_token.Given as goal

abbrev pub invariant-loop-index : goal.invariant-loop-index
invariant-loop-index g l = (k : ℕ) → k < l.index → IsOverflowSlot l.slots l.tokens l.front l.locs k → ⊥
