-- What an event is by the kind of its operation, and that it is in its code. Most proofs here distinguish
-- events by kind: a write is a store or also reads, what waits is a fence or locked.
use Rattle.lw_axiomatic.proofs.Common.{◌≡◌, ℕ, ◌<◌, ◌⊎◌, inl, inr, Bool, true, false, Option, Some, None}
use Rattle.lw_axiomatic.proofs.Common.{refl, sym, arith, slice_get, length, true≢false, option_and_then}
use Rattle.lw_axiomatic.proofs.Common.{option_map, option_map_or, cases_lt, none-some, slice_get_past}
use Rattle.lw_axiomatic.proofs.Common.{thread_code, Instr, Operation, Load, Store, Set, Sum, Compare, Fence}
use Rattle.lw_axiomatic.proofs.Common.{Branch, location_of, or_cases, or_right, is_store, is_load, is_locked}
use Rattle.lw_axiomatic.proofs.Common.{needs_empty_buffer, writes, x86_language, x86_operation, X86Test}
use Rattle.lw_axiomatic.proofs.Common.{MemoryEvent, reads, operation_is, location, location_of-if_locked}
use Rattle.lw_axiomatic.proofs.Levels.{size, length-size}
use Rattle.lw_litmus.specs.Operations as operations

-- If all operations of kind P pass the test Q, or all fail it, the operation of an event of that kind does too.
kind_implied : (P Q : Operation → Bool) (b : Bool)
    → ((o : Operation) → P o ≡ true → Q o ≡ b)
    → (q : Option Operation)
    → option_map_or P q false ≡ true
    → option_map_or Q q false ≡ b
kind_implied P Q b each None e = absurd (true≢false (sym e))
kind_implied P Q b each (Some o) e = each o e

-- An operation that reads is no store.
is_store-false_if_reads : (o : Operation) → reads o ≡ true → is_store o ≡ false
is_store-false_if_reads (Store x v) e = absurd (true≢false (sym e))
is_store-false_if_reads o e = refl

-- A fence is no store.
is_store-false_if_fence : (o : Operation) → operations.is_fence o ≡ true → is_store o ≡ false
is_store-false_if_fence (Store x v) e = absurd (true≢false (sym e))
is_store-false_if_fence o e = refl

-- A store reads nothing.
reads-false_if_store : (o : Operation) → is_store o ≡ true → reads o ≡ false
reads-false_if_store (Store x v) e = refl
reads-false_if_store _ e = absurd (true≢false (sym e))

-- A store is no fence.
is_fence-false_if_store : (o : Operation) → is_store o ≡ true → operations.is_fence o ≡ false
is_fence-false_if_store (Store x v) e = refl
is_fence-false_if_store _ e = absurd (true≢false (sym e))

-- An operation that writes is a store, or also reads.
store_or_reads : (q : Option Operation)
    → option_map_or writes q false ≡ true
    → (option_map_or is_store q false ≡ true) ⊎ (option_map_or reads q false ≡ true)
store_or_reads None e = absurd (true≢false (sym e))
store_or_reads (Some o) e =
    elim (or_cases (is_store o) _ e) [ inl store ↦ inl store | inr locked ↦ inr (or_right (is_load o) _ locked) ]

-- An operation that writes is a store, or waits for an empty store buffer.
store_or_waits : (q : Option Operation)
    → option_map_or writes q false ≡ true
    → (option_map_or is_store q false ≡ true) ⊎ (option_map_or needs_empty_buffer q false ≡ true)
store_or_waits None e = absurd (true≢false (sym e))
store_or_waits (Some o) e =
    elim (or_cases (is_store o) _ e) [ inl store ↦ inl store | inr locked ↦ inr (or_right (operations.is_fence o) _ locked) ]

-- A store does not wait for an empty store buffer.
pub needs_empty_buffer-false_if_store : (o : Operation) → is_store o ≡ true → needs_empty_buffer o ≡ false
needs_empty_buffer-false_if_store (Store x v) e = refl
needs_empty_buffer-false_if_store _ e = absurd (true≢false (sym e))

-- A fence waits for an empty store buffer.
needs_empty_buffer-if_fence : (o : Operation) → operations.is_fence o ≡ true → needs_empty_buffer o ≡ true
needs_empty_buffer-if_fence Fence e = refl
needs_empty_buffer-if_fence _ e = absurd (true≢false (sym e))

-- A load reads.
reads-if_load : (o : Operation) → is_load o ≡ true → reads o ≡ true
reads-if_load (Load d x) e = refl
reads-if_load _ e = absurd (true≢false (sym e))

-- A locked operation reads.
reads-if_locked : (o : Operation) → is_locked o ≡ true → reads o ≡ true
reads-if_locked o locked = or_right (is_load o) _ locked

-- A locked operation writes.
pub writes-if_locked : (o : Operation) → is_locked o ≡ true → writes o ≡ true
writes-if_locked o locked = or_right (is_store o) _ locked

-- A load writes nothing.
pub writes-false_if_load : (o : Operation) → is_load o ≡ true → writes o ≡ false
writes-false_if_load (Load d x) e = refl
writes-false_if_load _ e = absurd (true≢false (sym e))

-- An operation with a location writes it, or is a load.
writes_or_loads : (q : Option Operation) (l : ℕ)
    → option_and_then location_of q ≡ Some l
    → (option_map_or writes q false ≡ true) ⊎ (option_map_or is_load q false ≡ true)
writes_or_loads None l e = absurd (none-some l e)
writes_or_loads (Some (Load d x)) l e = inr refl
writes_or_loads (Some (Set d v)) l e = absurd (none-some l e)
writes_or_loads (Some (Sum d a v)) l e = absurd (none-some l e)
writes_or_loads (Some (Compare a v)) l e = absurd (none-some l e)
writes_or_loads (Some Fence) l e = absurd (none-some l e)
writes_or_loads (Some (Branch c to)) l e = absurd (none-some l e)
writes_or_loads (Some _) l e = inl refl

-- A load has a location.
location_of-if_load : (o : Operation) → is_load o ≡ true → (l : ℕ) × (location_of o ≡ Some l)
location_of-if_load (Load d x) e = (x, refl)
location_of-if_load _ e = absurd (true≢false (sym e))

-- An operation that reads has a location.
pub location_of-if_reads : (o : Operation) → reads o ≡ true → (l : ℕ) × (location_of o ≡ Some l)
location_of-if_reads o e =
    elim (or_cases (is_load o) _ e) [ inl load ↦ location_of-if_load o load | inr locked ↦ location_of-if_locked o locked ]

module _ (test : X86Test) where
  -- Tests the kind of an event's operation.
  abbrev has_kind : (Operation → Bool) → MemoryEvent → Bool
  has_kind = operation_is x86_language test

  -- An event that reads is no store.
  pub is_store-false_if_reads_event : (e : MemoryEvent) → has_kind reads e ≡ true → has_kind is_store e ≡ false
  is_store-false_if_reads_event e = kind_implied reads is_store false is_store-false_if_reads _

  -- An event that is a fence is no store.
  pub is_store-false_if_fence_event : (e : MemoryEvent) → has_kind operations.is_fence e ≡ true → has_kind is_store e ≡ false
  is_store-false_if_fence_event e = kind_implied operations.is_fence is_store false is_store-false_if_fence _

  -- An event that is a store reads nothing.
  pub reads-false_if_store_event : (e : MemoryEvent) → has_kind is_store e ≡ true → has_kind reads e ≡ false
  reads-false_if_store_event e = kind_implied is_store reads false reads-false_if_store _

  -- An event that is a store is no fence.
  pub is_fence-false_if_store_event : (e : MemoryEvent) → has_kind is_store e ≡ true → has_kind operations.is_fence e ≡ false
  is_fence-false_if_store_event e = kind_implied is_store operations.is_fence false is_fence-false_if_store _

  -- An event that writes is a store, or also reads.
  pub write_stores_or_reads : (e : MemoryEvent)
      → has_kind writes e ≡ true
      → (has_kind is_store e ≡ true) ⊎ (has_kind reads e ≡ true)
  write_stores_or_reads e = store_or_reads _

  -- An event that writes is a store, or waits for an empty store buffer.
  pub write_stores_or_waits : (e : MemoryEvent)
      → has_kind writes e ≡ true
      → (has_kind is_store e ≡ true) ⊎ (has_kind needs_empty_buffer e ≡ true)
  write_stores_or_waits e = store_or_waits _

  -- An event that is a store does not wait for an empty store buffer.
  pub needs_empty_buffer-false_if_store_event : (e : MemoryEvent)
      → has_kind is_store e ≡ true
      → has_kind needs_empty_buffer e ≡ false
  needs_empty_buffer-false_if_store_event e = kind_implied is_store needs_empty_buffer false needs_empty_buffer-false_if_store _

  -- An event that is a fence waits for an empty store buffer.
  pub needs_empty_buffer-if_fence_event : (e : MemoryEvent)
      → has_kind operations.is_fence e ≡ true
      → has_kind needs_empty_buffer e ≡ true
  needs_empty_buffer-if_fence_event e = kind_implied operations.is_fence needs_empty_buffer true needs_empty_buffer-if_fence _

  -- An event that is a load reads.
  pub reads-if_load_event : (e : MemoryEvent) → has_kind is_load e ≡ true → has_kind reads e ≡ true
  reads-if_load_event e = kind_implied is_load reads true reads-if_load _

  -- An event that is a locked instruction reads.
  pub reads-if_locked_event : (e : MemoryEvent) → has_kind is_locked e ≡ true → has_kind reads e ≡ true
  reads-if_locked_event e = kind_implied is_locked reads true reads-if_locked _

  -- An event that is a locked instruction writes.
  pub writes-if_locked_event : (e : MemoryEvent) → has_kind is_locked e ≡ true → has_kind writes e ≡ true
  writes-if_locked_event e = kind_implied is_locked writes true writes-if_locked _

  -- An event that is a load writes nothing.
  pub writes-false_if_load_event : (e : MemoryEvent) → has_kind is_load e ≡ true → has_kind writes e ≡ false
  writes-false_if_load_event e = kind_implied is_load writes false writes-false_if_load _

  -- An event with a location writes it, or is a load.
  pub write_or_load : (e : MemoryEvent) (l : ℕ)
      → location x86_language test e ≡ Some l
      → (has_kind writes e ≡ true) ⊎ (has_kind is_load e ≡ true)
  write_or_load e l location_is = writes_or_loads _ l location_is

  -- An event that has a location is in its code, which is no longer than the whole test.
  pub position_below_size : (e : MemoryEvent) (l : ℕ) → location x86_language test e ≡ Some l → e.position < size test.threads
  position_below_size e l location_is = elim (cases_lt e.position (length (thread_code test.threads e.thread))) [
    | inl h ↦ omega (arith, h, length-size test.threads e.thread)
    | inr h ↦
        absurd (no_location-of_None (slice_get (thread_code test.threads e.thread) e.position) (slice_get_past _ e.position h)
        location_is)
  ]
    where
      -- Without an instruction there is no location.
      no_location-of_None : (o : Option Instr) → o ≡ None → option_and_then location_of (option_map x86_operation o) ≡ Some l → ⊥
      no_location-of_None o is_none found = none-some l (rw is_none at found)
