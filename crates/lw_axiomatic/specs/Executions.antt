-- Executions of a test, of either language, by the relations between their events; they do not depend on a machine. The terms are those of
-- 'Herding Cats' (Alglave, Maranget and Tautschnig, TOPLAS 2014) and of herd's x86tso.cat. A locked instruction is one event, which reads
-- and writes.
use Rattle.std.specs.Prelude.{◌≡◌, ◌≢◌, ℕ, ◌<◌, ◌||◌, Bool, true, false, Option, Some, List, Contains, slice_get, option_map}
use Rattle.std.specs.Prelude.{option_and_then}
use Rattle.std.specs.Option.{ForSome, option_map_or}
use Rattle.lw_base.specs.Threads.{thread_code}
use Rattle.lw_litmus.specs.declared.operation.Operation.{Operation}
use Rattle.lw_litmus.specs.Languages.{Language}
use Rattle.lw_litmus.specs.Operations.{location_of, is_load, is_locked, is_fence}
use Rattle.lw_litmus.specs.Operations as operations
use Rattle.lw_litmus.specs.Tests.{Test}

-- An event: an instruction that a thread executes. Jumps lead forward, so it executes each at most once.
pub record MemoryEvent : Type 0 where
  pub thread : ℕ
  pub position : ℕ

-- An execution: the paths of the threads, the words that events read and write, reads-from and coherence order.
pub record Execution : Type 0 where
  pub paths : List (List ℕ)  -- For each thread the positions of the instructions that it executes.
  pub read : MemoryEvent → ℕ  -- The word that an event reads.
  pub written : MemoryEvent → ℕ  -- The word that an event writes.
  -- Reads-from: the event whose word this one reads; `None` for the initial word.
  pub rf : MemoryEvent → Option MemoryEvent
  -- Coherence order: a rank for each write; of two writes to a location the one with the lower rank comes first.
  pub co : MemoryEvent → ℕ

module _ (x : Execution) where
  -- The event is one of the execution: its thread executes it.
  abbrev pub IsEvent : MemoryEvent → Type 0
  IsEvent e = Contains (thread_code x.paths e.thread) e.position

  -- Program order: a comes before b in their thread.
  pub record Po (a b : MemoryEvent) : Type 0 where
    pub first_event : IsEvent a
    pub second_event : IsEvent b
    pub same_thread : a.thread ≡ b.thread
    pub position_lt : a.position < b.position

-- Tests whether an operation reads: a load or a locked instruction.
abbrev pub reads : Operation → Bool
reads o = is_load o || is_locked o

module _ {S : Type 0} (language : Language S) (test : Test S) where
  -- The operation of an event's instruction.
  abbrev pub operation_at : MemoryEvent → Option Operation
  operation_at e = option_map language.operation_of (slice_get (thread_code test.threads e.thread) e.position)

  -- Tests whether an event's operation passes the test.
  abbrev pub operation_is : (Operation → Bool) → MemoryEvent → Bool
  operation_is kind e = option_map_or kind (operation_at e) false

  -- The location that an event accesses, if it accesses one.
  abbrev pub location : MemoryEvent → Option ℕ
  location e = option_and_then location_of (operation_at e)

  module _ (x : Execution) where
    -- The event reads this location.
    pub record Reads (e : MemoryEvent) (l : ℕ) : Type 0 where
      pub is_event : IsEvent x e
      pub location_is : location e ≡ Some l
      pub is_read : operation_is reads e ≡ true

    -- The event writes this location.
    pub record Writes (e : MemoryEvent) (l : ℕ) : Type 0 where
      pub is_event : IsEvent x e
      pub location_is : location e ≡ Some l
      pub is_write : operation_is operations.writes e ≡ true

    -- Reads-from: r reads from w.
    pub record Rf (w r : MemoryEvent) : Type 0 where
      pub on_location : ℕ
      pub write : Writes w on_location
      pub read : Reads r on_location
      pub source_is : x.rf r ≡ Some w

    -- Coherence order: w comes before v.
    pub record Co (w v : MemoryEvent) : Type 0 where
      pub on_location : ℕ
      pub first_write : Writes w on_location
      pub second_write : Writes v on_location
      pub co_lt : x.co w < x.co v

    -- From-reads: r reads a word that w overwrites, the initial word or that of a write before w in coherence order.
    pub record Fr (r w : MemoryEvent) : Type 0 where
      pub on_location : ℕ
      pub read : Reads r on_location
      pub write : Writes w on_location
      pub events_differ : r ≢ w
      pub source_before : ForSome (x.rf r) (λ v. x.co v < x.co w)

    -- Program order of two events on one location.
    pub record PoLoc (a b : MemoryEvent) : Type 0 where
      pub po : Po x a b
      pub on_location : ℕ
      pub first_location_is : location a ≡ Some on_location
      pub second_location_is : location b ≡ Some on_location

    -- Preserved program order: the first reads, the second writes, or one is a fence. The order of a store and a later load is not
    -- preserved.
    pub record Ppo (a b : MemoryEvent) : Type 0 where
      pub po : Po x a b
      pub is_preserved :
          (operation_is reads a || (operation_is operations.writes b || (operation_is is_fence a || operation_is is_fence b))) ≡ true

    -- External reads-from: between two threads.
    pub record Rfe (w r : MemoryEvent) : Type 0 where
      pub rf : Rf w r
      pub threads_differ : w.thread ≢ r.thread
