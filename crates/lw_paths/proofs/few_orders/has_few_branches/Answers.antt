-- Proves `has_few_branches`: if it returns `true`, the program has at most as many branches as a list may
-- have unordered conflicts. The loop subtracts the branches of one thread after the other from the room
-- (`room-after_subtraction`).
use Rattle.lw_paths.proofs.Common.{◌≡◌, ℕ, ◌+◌, ◌-◌, ◌<◌, ◌≤◌, List, length, take, drop, get_or, ap, arith}
use Rattle.lw_paths.proofs.Common.{sum_by, sum_by-cons, sum_by-take-drop, drop_more, common_steps}
use Rattle.lw_paths.proofs.few_orders.has_few_branches.Goals as goal

-- If the room and the counts of the first i elements together are `most`, so are the room less the count of the element at i,
-- which is at most the room, and the counts of the first i + 1.
room-after_subtraction : {X : Type 0} (f : X → ℕ) (xs : List X) (i : ℕ) (x : X) (room count most : ℕ)
    → i < length xs
    → x ≡ get_or xs i x
    → count ≡ f x
    → count ≤ room
    → room + sum_by f (take i xs) ≡ most
    → (room - count) + sum_by f (take (i + 1) xs) ≡ most
room-after_subtraction f xs i x room count most in_range at is few whole = omega (
  arith,
  sum_by-take-drop f xs i,
  sum_by-take-drop f xs (i + 1),
  sum_by-cons f (get_or xs i x) (drop (i + 1) xs),
  ap (sum_by f) (drop_more xs i x in_range),
  ap f at,
  is,
  few,
  whole,
)

pub loop-code-preserved : goal.loop-code-preserved
loop-code-preserved g c =
    room-after_subtraction _ c.args.program.now _ c.code-item.result c.loop-code.room _ _ c.loop-code-test.true c.code-item.is
    c.count_branches-count.ensures c.if-room-count.false c.loop-code.invariant

pub returns : goal.returns
returns g c = grind (arith, common_steps)
