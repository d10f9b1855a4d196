-- The statements that a thread of the source still has to execute: how far its processor is ahead of it, by local statements and by stores
-- that are still in the store buffer. ThreadSimulation says by this how a processor runs ahead, and MachineToSource how a thread catches
-- up.
use Rattle.lw_fence.proofs.Common.{◌≡◌, ◌≢◌, ℕ, List, [], ◌∷◌, ◌++◌, Some, None, refl, inl, inr, subst}
use Rattle.lw_fence.proofs.Common.{subst₂, slice_get, slice_set, thread_code, operand_value, Operand, Stmt}
use Rattle.lw_fence.proofs.Common.{Store, Load, Swap, FetchAdd, location_of, source_operation, Thread}
use Rattle.lw_fence.proofs.Common.{advance, thread_after, IsSuccessor-thread_after, thread_after-no_location}
use Rattle.lw_fence.proofs.Common.{words_after-no_location, preserves_pending_stores, HasKind}
use Rattle.lw_fence.proofs.Common.{IsReachableFromStore}
use Rattle.lw_fence.proofs.Marks.{IsReachableFromStore-of_statement}
use Rattle.lw_fence.proofs.Moves.{ThreadMoves, ThreadMoves-refl, ThreadMoves-trans, ThreadMoves-statement}

-- The statement is local: it neither reads nor writes a location.
abbrev pub IsLocal : Stmt → Type 0
IsLocal s = location_of (source_operation s) ≡ None

-- The thread reaches one state from another by local statements and by stores, and these are the stores.
pub data HasPendingStores (code : List Stmt) : Thread → List (ℕ × ℕ) → Thread → Type 0 where
  nothing : {th : Thread} → HasPendingStores code th [] th
  local : {th end : Thread} {buffer : List (ℕ × ℕ)} (s : Stmt)
      → slice_get code th.position ≡ Some s
      → IsLocal s
      → HasPendingStores code (thread_after (source_operation s) th []) buffer end
      → HasPendingStores code th buffer end
  store : {th end : Thread} {buffer : List (ℕ × ℕ)} (x : ℕ) (v : Operand)
      → slice_get code th.position ≡ Some (Store x v)
      → HasPendingStores code (advance th) buffer end
      → HasPendingStores code th ((x, operand_value v th.regs) ∷ buffer) end

-- Pending statements compose.
pub HasPendingStores-append : {code : List Stmt} {th : Thread} (mid : Thread) {end : Thread} {buffer newer : List (ℕ × ℕ)}
    → HasPendingStores code th buffer mid
    → HasPendingStores code mid newer end
    → HasPendingStores code th (buffer ++ newer) end
HasPendingStores-append mid nothing more = more
HasPendingStores-append {code = code} mid {end = end} {newer = newer} (local s at l o) more =
    local s at l (HasPendingStores-append _ o more)
HasPendingStores-append _ (store {buffer = rest} x v at o) more = store x v at (HasPendingStores-append _ o more)

-- A store may stay buffered past a local statement.
HasKind-local : (s : Stmt) → IsLocal s → HasKind preserves_pending_stores (Some s)
HasKind-local (Load d x) l = absurd cc
HasKind-local (Swap d x a) l = absurd cc
HasKind-local (FetchAdd d x a) l = absurd cc
HasKind-local s l = refl

-- If a thread's position is reachable from a store, so is its position after its pending statements.
IsReachableFromStore-pending : (code : List Stmt) (th end : Thread) (buffer : List (ℕ × ℕ))
    → HasPendingStores code th buffer end
    → IsReachableFromStore code th.position
    → IsReachableFromStore code end.position
IsReachableFromStore-pending code th end buffer nothing b = b
IsReachableFromStore-pending code th end buffer (local s at l o) b =
    IsReachableFromStore-pending code _ end buffer o
    (IsReachableFromStore-of_statement code _ at (IsSuccessor-thread_after _ th []) (inr (HasKind-local s l, b)))
IsReachableFromStore-pending code th end buffer (store {buffer = rest} x v at o) b =
    IsReachableFromStore-pending code _ end rest o
    (IsReachableFromStore-of_statement code _ at (inl (refl, refl)) (inr (refl, b)))

-- If a thread has a pending store, its position after its pending statements is reachable from a store.
pub IsReachableFromStore-pending_store : (code : List Stmt) (th end : Thread) {buffer : List (ℕ × ℕ)}
    → HasPendingStores code th buffer end
    → buffer ≢ []
    → IsReachableFromStore code end.position
IsReachableFromStore-pending_store code th end nothing full = absurd (full refl)
IsReachableFromStore-pending_store code th end {buffer = buffer} (local s at l o) full =
    IsReachableFromStore-pending_store code _ end o full
IsReachableFromStore-pending_store code th end (store {buffer = rest} x v at o) full =
    IsReachableFromStore-pending code _ end rest o (IsReachableFromStore-of_statement code _ at (inl (refl, refl)) (inl refl))

module _ (program : List (List Stmt)) (t : ℕ) where
  -- A thread can execute a local statement, which leaves memory unchanged.
  ThreadMoves-local_statement : (th : Thread) (m : List ℕ) (s : Stmt)
      → slice_get (thread_code program t) th.position ≡ Some s
      → IsLocal s
      → ThreadMoves program t th m (thread_after (source_operation s) th []) m
  ThreadMoves-local_statement th m s found_at l =
      subst₂ (λ a n. ThreadMoves program t th m a n) (thread_after-no_location (source_operation s) th m [] l)
      (words_after-no_location (source_operation s) th m l) (ThreadMoves-statement program t th m s found_at)

  -- A thread whose processor's store buffer is empty can execute all its pending statements, and catches up.
  pub ThreadMoves-pending_statements : (th end : Thread) (buffer : List (ℕ × ℕ)) (m : List ℕ)
      → HasPendingStores (thread_code program t) th buffer end
      → buffer ≡ []
      → ThreadMoves program t th m end m
  ThreadMoves-pending_statements th end buffer m nothing is_nil = ThreadMoves-refl program t th m
  ThreadMoves-pending_statements th end buffer m (local s at l o) is_nil =
      ThreadMoves-trans program t th end m m (ThreadMoves-local_statement th m s at l)
      (ThreadMoves-pending_statements _ end buffer m o is_nil)
  ThreadMoves-pending_statements th end buffer m (store x v at o) is_nil = absurd cc

  -- The thread has executed the oldest store, and the later statements are still pending.
  pub record ExecutesOldestStore (th : Thread) (m : List ℕ) (oldest : ℕ × ℕ) (newer : List (ℕ × ℕ)) (end : Thread) : Type 0 where
    pub mid : Thread
    pub moves : ThreadMoves program t th m mid (slice_set m oldest.0 oldest.1)
    pub pending_stores : HasPendingStores (thread_code program t) mid newer end

  -- If the store buffer has an entry, the thread can execute its statements up to the oldest store, and the newer ones are still pending.
  pub ExecutesOldestStore-pending : (th end : Thread) {buffer : List (ℕ × ℕ)} (m : List ℕ) (oldest : ℕ × ℕ) (newer : List (ℕ × ℕ))
      → HasPendingStores (thread_code program t) th buffer end
      → buffer ≡ oldest ∷ newer
      → ExecutesOldestStore th m oldest newer end
  ExecutesOldestStore-pending th end m oldest newer nothing e = absurd cc
  ExecutesOldestStore-pending th end {buffer = buffer} m oldest newer (local s at l o) e =
      let a = ExecutesOldestStore-pending _ end m oldest newer o e in
      record {
        mid = a.mid;
        moves = ThreadMoves-trans program t th a.mid m m (ThreadMoves-local_statement th m s at l) a.moves;
        pending_stores = a.pending_stores;
      }
  ExecutesOldestStore-pending th end m oldest newer (store {buffer = rest} x v at o) e =
      let first : (x, operand_value v th.regs) ≡ oldest = cc in
      let others : rest ≡ newer = cc in
      record {
        mid = advance th;
        moves =
            subst (λ (entry : ℕ × ℕ). ThreadMoves program t th m (advance th) (slice_set m entry.0 entry.1)) first
            (ThreadMoves-statement program t th m (Store x v) at);
        pending_stores = subst (λ b. HasPendingStores (thread_code program t) (advance th) b end) others o;
      }
