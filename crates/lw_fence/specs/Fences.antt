-- The statements of a thread that need a fence before them: loads that a flow path reaches from a store, with nothing between that needs an
-- empty store buffer. On x86 a store may remain in its buffer while a later load of the same thread executes; a fence or a locked
-- instruction between the two forbids this (Sewell, Sarkar, Owens and others, CACM 2010).
use Rattle.std.specs.Prelude.{◌≡◌, ℕ, Bool, true, false, not, ◌||◌, Option, List, [], ◌∷◌, ◌++◌, slice_get}
use Rattle.std.specs.List.{AllByRecursion}
use Rattle.std.specs.Option.{option_map_or}
use Rattle.lw_litmus.specs.declared.stmt.Stmt.{Stmt}
use Rattle.lw_litmus.specs.declared.operation.Operation.{Operation}
use Rattle.lw_litmus.specs.Flow.{IsFlowSuccessor}
use Rattle.lw_litmus.specs.Operations.{is_store, is_load, needs_empty_buffer}
use Rattle.lw_litmus.specs.Sources.{source_language, source_operation}

-- Tests whether stores may remain in the buffer past an operation: it is neither a load, which would have a fence before it, nor an
-- operation that needs an empty buffer.
abbrev pub preserves_pending_stores : Operation → Bool
preserves_pending_stores o = not (is_load o || needs_empty_buffer o)

-- There is a statement, and its operation passes the test.
abbrev pub HasKind : (Operation → Bool) → Option Stmt → Type 0
HasKind such o = option_map_or (λ s. such (source_operation s)) o false ≡ true

-- There is a statement at this index, and its operation passes the test.
abbrev pub HasOperation : (Operation → Bool) → List Stmt → ℕ → Type 0
HasOperation such code j = HasKind such (slice_get code j)

-- The positions are a flow path: each is a successor of the one before.
abbrev pub IsFlowPath : List Stmt → List ℕ → Type 0
IsFlowPath code [] = Unit {0}
IsFlowPath code (j ∷ []) = Unit {0}
IsFlowPath code (j ∷ k ∷ path) = IsFlowSuccessor source_language (slice_get code j) j k × IsFlowPath code (k ∷ path)

-- A flow path leads from a store to the position, on which its entry may remain in the store buffer.
pub record IsReachableFromStore (code : List Stmt) (j : ℕ) : Type 0 where
  pub store : ℕ
  pub between : List ℕ
  pub stores : HasOperation is_store code store
  pub path : IsFlowPath code (store ∷ (between ++ j ∷ []))
  pub preserved : AllByRecursion (HasOperation preserves_pending_stores code) between  -- Stores may remain in the buffer past each of these.

-- The statement at this index is a load that is reachable from such a store.
abbrev pub NeedsFence : List Stmt → ℕ → Type 0
NeedsFence code j = HasOperation is_load code j × IsReachableFromStore code j
