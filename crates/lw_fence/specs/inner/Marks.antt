-- The marks of positions that a flow path reaches from a store that may remain in the buffer. Used only within the crate.
use Rattle.std.specs.Prelude.{ℕ, ◌+◌, Bool, true, ◌&&◌, ◌||◌, if◌then◌else◌, Option, Some, None, List, slice_set}
use Rattle.lw_litmus.specs.declared.operation.Operation.{Operation}
use Rattle.lw_litmus.specs.Operations.{is_store, branch_target, falls_through}
use Rattle.lw_fence.specs.Fences.{preserves_pending_stores}

-- Tests whether a store may be in the buffer after the operation; `before` says whether one may be in it before.
abbrev pub may_wait : Operation → Bool → Bool
may_wait o before = is_store o || (preserves_pending_stores o && before)

-- The marks, with the position k marked too, if it is within the list; unchanged without a position (`None`).
abbrev pub with_mark : Option ℕ → List Bool → List Bool
with_mark None marks = marks
with_mark (Some k) marks = slice_set marks k true

-- The marks, with the successors of the operation at position i marked too: the next one, unless it always jumps, and its target.
abbrev pub mark_successors : Operation → ℕ → List Bool → List Bool
mark_successors o i marks = with_mark (if falls_through o then Some (i + 1) else None) (with_mark (branch_target o) marks)
