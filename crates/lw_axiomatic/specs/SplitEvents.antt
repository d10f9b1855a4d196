-- The axioms in herd's form: a locked instruction is two events, its read followed by its write, with an axiom of their own. The source is
-- herd's x86tso.cat: `empty rmw & (fre;coe)`, and `implied`, by which all of program order to and from a locked instruction is preserved.
use Rattle.std.specs.Prelude.{◌≡◌, ◌≢◌, ℕ, ◌<◌, ◌||◌, ◌&&◌, ◌⊎◌, Bool, true, false, not}
use Rattle.std.specs.Option.{ForSome}
use Rattle.std.specs.Prelude.{Some}
use Rattle.lw_base.specs.Outcomes.{FinalState}
use Rattle.lw_litmus.specs.Operations.{is_locked, is_fence}
use Rattle.lw_litmus.specs.Operations as operations
use Rattle.lw_litmus.specs.Programs.{x86_language}
use Rattle.lw_litmus.specs.Tests.{X86Test}
use Rattle.lw_axiomatic.specs.Executions.{MemoryEvent, Execution, IsEvent, Reads, Writes, Po, location, operation_is, reads}
use Rattle.lw_axiomatic.specs.Candidates.{IsCandidate}
use Rattle.lw_axiomatic.specs.Axioms.{Acyclic}

-- A half of an event: of a locked instruction its read, or, if `is_second` is set, its write; of any other event the event itself.
pub record Half : Type 0 where
  pub event : MemoryEvent
  pub is_second : Bool

module _ (test : X86Test) (x : Execution) where
  -- Only locked instructions have a second half.
  pub record IsHalf (h : Half) : Type 0 where
    pub is_event : IsEvent x h.event
    pub locked_if_second : h.is_second ≡ true → operation_is x86_language test is_locked h.event ≡ true

  -- The half is the first of an event that reads the location.
  pub record HalfReads (h : Half) (l : ℕ) : Type 0 where
    pub event_reads : Reads x86_language test x h.event l
    pub is_first : h.is_second ≡ false

  -- The half is a store to the location, or the second half of a locked instruction.
  pub record HalfWrites (h : Half) (l : ℕ) : Type 0 where
    pub event_writes : Writes x86_language test x h.event l
    pub is_last : h.is_second ≡ operation_is x86_language test is_locked h.event

  -- The halves are the read and the write of one locked instruction.
  pub record AreHalves (a b : Half) : Type 0 where
    pub first_half : IsHalf a
    pub second_half : IsHalf b
    pub same_event : a.event ≡ b.event
    pub first_is_first : a.is_second ≡ false
    pub second_is_second : b.is_second ≡ true

  -- Program order of halves, in which a locked instruction's read comes before its write.
  abbrev pub HalvesPo : Half → Half → Type 0
  HalvesPo a b = (IsHalf a × IsHalf b × Po x a.event b.event) ⊎ AreHalves a b

  -- Reads-from of halves.
  pub record HalvesRf (w r : Half) : Type 0 where
    pub on_location : ℕ
    pub write : HalfWrites w on_location
    pub read : HalfReads r on_location
    pub source_is : x.rf r.event ≡ Some w.event

  -- Coherence order of halves that write.
  pub record HalvesCo (w v : Half) : Type 0 where
    pub on_location : ℕ
    pub first_write : HalfWrites w on_location
    pub second_write : HalfWrites v on_location
    pub co_lt : x.co w.event < x.co v.event

  -- From-reads of halves: to a write later in coherence order than the one that is read from.
  pub record HalvesFr (r w : Half) : Type 0 where
    pub on_location : ℕ
    pub read : HalfReads r on_location
    pub write : HalfWrites w on_location
    pub source_before : ForSome (x.rf r.event) (λ v. x.co v < x.co w.event)

  -- Program order of halves on one location.
  pub record HalvesPoLoc (a b : Half) : Type 0 where
    pub po : HalvesPo a b
    pub on_location : ℕ
    pub first_location_is : location x86_language test a.event ≡ Some on_location
    pub second_location_is : location x86_language test b.event ≡ Some on_location

  -- Tests whether a half reads: a load, or the first half of a locked instruction.
  abbrev pub reads_first : Half → Bool
  reads_first h = operation_is x86_language test reads h.event && not h.is_second

  -- Tests whether a half writes: a store, or the second half of a locked instruction.
  abbrev pub writes_last : Half → Bool
  writes_last h = operation_is x86_language test operations.writes h.event && (not (operation_is x86_language test is_locked h.event) || h.is_second)

  -- Tests whether a half is ordered with all others of its thread: a fence, or a half of a locked instruction.
  abbrev pub is_ordered_with_all : Half → Bool
  is_ordered_with_all h = operation_is x86_language test is_fence h.event || operation_is x86_language test is_locked h.event

  -- Preserved program order of halves: the first reads, the second writes, or one is a fence or a half of a locked instruction.
  pub record HalvesPpo (a b : Half) : Type 0 where
    pub po : HalvesPo a b
    pub is_preserved : (reads_first a || (writes_last b || (is_ordered_with_all a || is_ordered_with_all b))) ≡ true

  -- The halves are of two threads.
  abbrev pub AreOfTwoThreads : Half → Half → Type 0
  AreOfTwoThreads a b = a.event.thread ≢ b.event.thread

  -- The axioms of halves: coherence, atomicity and global happens-before.
  pub record SatisfiesSplitAxioms : Type 0 where
    pub coherence : Acyclic (λ a b. HalvesPoLoc a b ⊎ (HalvesRf a b ⊎ (HalvesCo a b ⊎ HalvesFr a b)))
    -- Atomicity: no write of another thread comes between the two halves.
    pub atomic : (r w v : Half) → AreHalves r w → HalvesFr r v → AreOfTwoThreads r v → HalvesCo v w → AreOfTwoThreads v w → ⊥
    pub happens_before : Acyclic (λ a b. HalvesPpo a b ⊎ ((HalvesRf a b × AreOfTwoThreads a b) ⊎ (HalvesCo a b ⊎ HalvesFr a b)))

-- Some execution of the test with this outcome satisfies the axioms of halves.
pub record IsAllowedBySplitAxioms (test : X86Test) (o : FinalState) : Type 0 where
  pub execution : Execution
  pub candidate : IsCandidate x86_language test execution o
  pub axioms : SatisfiesSplitAxioms test execution
