-- Proves `needs_empty_buffer`: if it returns `true`, the machine refuses the operation while the buffer has
-- an entry. One case for each operation that waits; the cause is `FenceWaits` or `SwapWaits`.
use Rattle.lw_search.proofs.Common.{FenceWaits, SwapWaits}
use Rattle.lw_search.proofs.ThreadStates.{if_buffer_empty-refused}
use Rattle.lw_search.proofs.thread_state.needs_empty_buffer.Goals as goal

pub returns-in-Fence : goal.returns-in-Fence
returns-in-Fence g = λ yes p full. rw g.in-Fence.is (FenceWaits, if_buffer_empty-refused _ _ _ full)

pub returns-in-Swap : goal.returns-in-Swap
returns-in-Swap g = λ yes p full. rw g.in-Swap.is (SwapWaits, if_buffer_empty-refused _ _ _ full)

pub returns-in-FetchAdd : goal.returns-in-FetchAdd
returns-in-FetchAdd g = λ yes p full. rw g.in-FetchAdd.is (SwapWaits, if_buffer_empty-refused _ _ _ full)
