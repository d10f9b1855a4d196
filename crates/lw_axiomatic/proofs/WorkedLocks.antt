-- The spin lock of examples/SpinLock-x86.litmus, worked, for any number of threads: each thread goes along one of three paths, by what
-- it reads of the lock; so the location is used as a lock, and critical sections do not overlap.
use Rattle.lw_axiomatic.proofs.Common.{Contains-singleton, subst₂, ◌&&◌, ◌+◌, cond-true, Contains-head}
use Rattle.lw_axiomatic.proofs.Common.{Contains-tail, cond-false, and_from, eq-eqb, Contains-cons}
use Rattle.lw_axiomatic.proofs.Common.{not-Contains-nil, All-contains, All-from_recursion, slice_index}
use Rattle.lw_axiomatic.proofs.Common.{wrapping_sum, spin_lock_code, spin_lock, ◌≡◌, ℕ, zero, suc, ◌<◌, ◌⊎◌}
use Rattle.lw_axiomatic.proofs.Common.{◌==◌, inl, inr, Bool, true, false, Option, Some, None, List, [], ◌∷◌}
use Rattle.lw_axiomatic.proofs.Common.{refl, sym, ap, ◌∙◌, subst, arith, true≢false, none-some, same_Some}
use Rattle.lw_axiomatic.proofs.Common.{cases_Bool, slice_get, slice_index_or, slice_get_past, replicate, not}
use Rattle.lw_axiomatic.proofs.Common.{if◌then◌else◌, option_map, option_map_or, option_and_then, eqb-true}
use Rattle.lw_axiomatic.proofs.Common.{AllByRecursion, Contains, Instr, Operation, location_of, is_store}
use Rattle.lw_axiomatic.proofs.Common.{is_locked, writes, x86_language, x86_operation, X86Test, thread_code}
use Rattle.lw_axiomatic.proofs.Common.{MemoryEvent, Execution, IsEvent, operation_is, location, Writes}
use Rattle.lw_axiomatic.proofs.Common.{ThreadState, first_state, state_after, word_written, ThreadExecutes}
use Rattle.lw_axiomatic.proofs.Common.{IsCandidate, FinalState, Acquires, IsUsedAsLock, Number, Register}
use Rattle.lw_axiomatic.proofs.Common.{length-replicate, reads}
use Rattle.lw_axiomatic.proofs.EventLists.{event}
use Rattle.lw_axiomatic.proofs.FencedTests.{event_thread_in_range}
use Rattle.lw_litmus.specs.declared.instr.Instr.TheVariants as instr

-- ---- one step of a thread, if its instruction is known

-- The thread does its next instruction, and goes on from there.
record Advances (x : Execution) (t : ℕ) (code : List Instr) (path : List ℕ) (s end : ThreadState) (i : Instr) : Type 0 where
  rest : List ℕ
  path_is : path ≡ s.position ∷ rest
  wrote : writes (x86_operation i) ≡ true
      → x.written (event t s.position) ≡ word_written (x86_operation i) s.regs (x.read (event t s.position))
  executes : ThreadExecutes x86_language x t code rest (state_after (x86_operation i) s (x.read (event t s.position))) end

-- A thread that is not at the end of its code advances.
Advances-in_code : (x : Execution) (t : ℕ) (code : List Instr) (path : List ℕ) (s end : ThreadState) (i : Instr)
    → slice_get code s.position ≡ Some i
    → ThreadExecutes x86_language x t code path s end
    → Advances x t code path s end i
Advances-in_code x t code [] s end i found_at executes =
    absurd (none-some i (sym (slice_get_past code s.position (omega (arith, executes.0))) ∙ found_at))
Advances-in_code x t code (j ∷ path) s end i found_at executes =
    let same : executes.statement ≡ i =
    same_Some executes.statement i
    (sym (subst (λ k. slice_get code k ≡ Some executes.statement) (sym executes.position_is) executes.statement_at) ∙ found_at) in
    record {
      rest = path;
      path_is = ap (λ k. k ∷ path) (sym executes.position_is);
      wrote =
          subst₂ (λ k (h : Instr).
          writes (x86_operation h) ≡ true → x.written (event t k) ≡ word_written (x86_operation h) s.regs (x.read (event t k)))
          (sym executes.position_is) same executes.written_is;
      executes =
          subst₂
          (λ k (h : Instr). ThreadExecutes x86_language x t code path (state_after (x86_operation h) s (x.read (event t k))) end)
          (sym executes.position_is) same executes.rest;
    }

-- A thread at the end of its code stops there.
ThreadExecutes-at_end_inv : (x : Execution) (t : ℕ) (code : List Instr) (path : List ℕ) (s end : ThreadState)
    → slice_get code s.position ≡ None
    → ThreadExecutes x86_language x t code path s end
    → (path ≡ []) × (end ≡ s)
ThreadExecutes-at_end_inv x t code [] s end is_none executes = (refl, executes.1)
ThreadExecutes-at_end_inv x t code (j ∷ path) s end is_none executes =
    absurd (none-some executes.statement
    (sym is_none ∙ subst (λ k. slice_get code k ≡ Some executes.statement) (sym executes.position_is) executes.statement_at))

-- ---- the instructions of a code by their kind and location

-- The instruction is of this kind, on this location.
abbrev pub is_kind_on : (Operation → Bool) → ℕ → Instr → Bool
is_kind_on kind l i = kind (x86_operation i) && option_map_or (λ k. k == l) (location_of (x86_operation i)) false

-- Returns the indices of the instructions that pass a test, where the first one's index is k.
abbrev pub indices_of : (Instr → Bool) → List Instr → ℕ → List ℕ
indices_of test [] k = []
indices_of test (i ∷ code) k = if test i then k ∷ indices_of test code (suc k) else indices_of test code (suc k)

-- An instruction that passes the test is at one of these indices.
Contains-indices_of : (test : Instr → Bool) (code : List Instr) (k j m : ℕ) (i : Instr)
    → slice_get code j ≡ Some i
    → test i ≡ true
    → m ≡ k + j
    → Contains (indices_of test code k) m
Contains-indices_of test [] k j m i found_at passes same = absurd (none-some i found_at)
Contains-indices_of test (h ∷ code) k zero m i found_at passes same =
    let first : test h ≡ true = ap test (same_Some h i found_at) ∙ passes in
    subst (λ (xs : List ℕ). Contains xs m)
    (sym (cond-true (test h) (k ∷ indices_of test code (suc k)) (indices_of test code (suc k)) first))
    (Contains-head k m (indices_of test code (suc k)) (omega (arith, same)))
Contains-indices_of test (h ∷ code) k (suc j) m i found_at passes same =
    let later = Contains-indices_of test code (suc k) j m i found_at passes (omega (arith, same)) in
    elim (cases_Bool (test h)) [
      | inl passing ↦
          subst (λ (xs : List ℕ). Contains xs m)
          (sym (cond-true (test h) (k ∷ indices_of test code (suc k)) (indices_of test code (suc k)) passing))
          (Contains-tail k m (indices_of test code (suc k)) later)
      | inr failing ↦
          subst (λ (xs : List ℕ). Contains xs m)
          (sym (cond-false (test h) (k ∷ indices_of test code (suc k)) (indices_of test code (suc k)) failing)) later
    ]

-- An instruction of this kind, on this location, is at one of their indices.
Contains-indices_of_kind : (kind : Operation → Bool) (l j : ℕ) (code : List Instr)
    → option_map_or kind (option_map x86_operation (slice_get code j)) false ≡ true
    → option_and_then location_of (option_map x86_operation (slice_get code j)) ≡ Some l
    → Contains (indices_of (is_kind_on kind l) code 0) j
Contains-indices_of_kind kind l j code has_kind location_is = Contains-of_instruction (slice_get code j) refl has_kind location_is
  where
    -- By the instruction at the index.
    Contains-of_instruction : (q : Option Instr)
        → slice_get code j ≡ q
        → option_map_or kind (option_map x86_operation q) false ≡ true
        → option_and_then location_of (option_map x86_operation q) ≡ Some l
        → Contains (indices_of (is_kind_on kind l) code 0) j
    Contains-of_instruction None found_at has_kind location_is = absurd (true≢false (sym has_kind))
    Contains-of_instruction (Some i) found_at has_kind location_is =
        Contains-indices_of (is_kind_on kind l) code 0 j j i found_at
        (and_from (kind (x86_operation i)) _ has_kind
        (ap (λ q. option_map_or (λ k. k == l) q false) location_is ∙ eq-eqb l l refl)) (omega arith)

-- A list of two items has no other.
Contains-pair_inv : (k m j : ℕ) → Contains (k ∷ m ∷ []) j → (j ≡ k) ⊎ (j ≡ m)
Contains-pair_inv k m j is_member = elim (Contains-cons k j (m ∷ []) is_member) [
  | inl is_head ↦ inl (sym is_head)
  | inr in_tail ↦ inr (Contains-singleton m j in_tail)
]

-- A member of a list of numbers below n is below n.
member-below : (n j : ℕ) (xs : List ℕ) → AllByRecursion (λ k. k < n) xs → Contains xs j → j < n
member-below n j xs all is_member = All-contains (λ k. k < n) xs j (All-from_recursion (λ k. k < n) xs all) is_member

-- ---- a thread of the spin lock

-- A thread whose registers EBX, EDX and EDI are as at the start.
abbrev state_at : ℕ → ℕ → ℕ → ℕ → Bool → ThreadState
state_at position eax ecx esi flag = record { position = position; regs = eax ∷ 1 ∷ ecx ∷ 0 ∷ esi ∷ 0 ∷ []; zero_flag = flag }

-- The positions of a thread that was inside.
abbrev pub inside_path : List ℕ
inside_path = 0 ∷ 1 ∷ 2 ∷ 3 ∷ 4 ∷ 5 ∷ 6 ∷ 7 ∷ 8 ∷ 9 ∷ 10 ∷ 11 ∷ []

module _ (x : Execution) (t : ℕ) where
  -- The thread looked at the lock, and it was taken.
  pub record FindsLockTaken (path : List ℕ) (end : ThreadState) : Type 0 where
    pub path_is : path ≡ 0 ∷ 1 ∷ 2 ∷ []
    pub outside : slice_index end.regs 4 ≡ 0

  -- The thread tried to take the lock, and it was taken.
  pub record FailsToTakeLock (path : List ℕ) (end : ThreadState) : Type 0 where
    pub path_is : path ≡ 0 ∷ 1 ∷ 2 ∷ 3 ∷ 4 ∷ 5 ∷ 6 ∷ []
    pub takes : x.written (event t 4) ≡ 1
    pub outside : slice_index end.regs 4 ≡ 0

  -- The thread was inside.
  pub record EntersSection (path : List ℕ) : Type 0 where
    pub path_is : path ≡ inside_path
    pub takes : x.written (event t 4) ≡ 1
    pub free : x.read (event t 4) ≡ 0
    pub counts : x.written (event t 10) ≡ wrapping_sum (x.read (event t 8)) 1

  -- A thread of the spin lock ends in one of three ways: it finds the lock taken, fails to take it, or enters its section.
  abbrev pub SpinLockRun : List ℕ → ThreadState → Type 0
  SpinLockRun path end = FindsLockTaken path end ⊎ (FailsToTakeLock path end ⊎ EntersSection path)

  -- The thread executes this path from one state to another.
  abbrev ExecutesPath : List ℕ → ThreadState → ThreadState → Type 0
  ExecutesPath path s end = ThreadExecutes x86_language x t spin_lock_code path s end

  -- The word that the event at a position reads.
  abbrev word_read_at : ℕ → ℕ
  word_read_at j = x.read (event t j)

  -- At an instruction of the code the thread advances by it.
  abbrev Advances-spin_lock : (path : List ℕ) (s end : ThreadState) (i : Instr)
      → slice_get spin_lock_code s.position ≡ Some i
      → ExecutesPath path s end
      → Advances x t spin_lock_code path s end i
  Advances-spin_lock = Advances-in_code x t spin_lock_code

  -- A thread that has taken the lock, which was free, runs through its critical section.
  EntersSection-takes_lock : (path rest : List ℕ) (end : ThreadState)
      → path ≡ 0 ∷ 1 ∷ 2 ∷ 3 ∷ 4 ∷ 5 ∷ 6 ∷ rest
      → x.written (event t 4) ≡ 1
      → word_read_at 4 ≡ 0
      → ExecutesPath rest (state_at 7 (word_read_at 4) 0 0 (word_read_at 4 == 0)) end
      → EntersSection path
  EntersSection-takes_lock path rest end begun takes free goes =
      let a7 =
      Advances-spin_lock rest (state_at 7 (word_read_at 4) 0 0 (word_read_at 4 == 0)) end (instr.Set 4 (Number 1)) refl goes in
      let a8 =
      Advances-spin_lock a7.rest (state_at 8 (word_read_at 4) 0 1 (word_read_at 4 == 0)) end (instr.Load 2 0) refl a7.executes in
      let a9 =
      Advances-spin_lock a8.rest (state_at 9 (word_read_at 4) (word_read_at 8) 1 (word_read_at 4 == 0)) end
      (instr.Add 2 (Number 1)) refl a8.executes in
      let sum : ℕ = wrapping_sum (word_read_at 8) 1 in
      let a10 =
      Advances-spin_lock a9.rest (state_at 10 (word_read_at 4) sum 1 (sum == 0)) end (instr.Store 0 (Register 2)) refl
      a9.executes in
      let a11 =
      Advances-spin_lock a10.rest (state_at 11 (word_read_at 4) sum 1 (sum == 0)) end (instr.Store 1 (Number 0)) refl
      a10.executes in
      let last =
      ThreadExecutes-at_end_inv x t spin_lock_code a11.rest (state_at 12 (word_read_at 4) sum 1 (sum == 0)) end refl
      a11.executes in
      record {
        path_is =
            begun
            ∙ ap (λ p. 0 ∷ 1 ∷ 2 ∷ 3 ∷ 4 ∷ 5 ∷ 6 ∷ p)
            (a7.path_is
            ∙ ap (λ p. 7 ∷ p)
            (a8.path_is
            ∙ ap (λ p. 8 ∷ p)
            (a9.path_is ∙ ap (λ p. 9 ∷ p) (a10.path_is ∙ ap (λ p. 10 ∷ p) (a11.path_is ∙ ap (λ p. 11 ∷ p) last.0)))));
        takes = takes;
        free = free;
        counts = a10.wrote refl;
      }

  -- A thread that found the lock free fails to take it, or enters its critical section.
  Tried_or_Entered : (path rest : List ℕ) (end : ThreadState) (flag : Bool)
      → path ≡ 0 ∷ 1 ∷ 2 ∷ rest
      → ExecutesPath rest (state_at 3 (word_read_at 0) 0 0 flag) end
      → FailsToTakeLock path end ⊎ EntersSection path
  Tried_or_Entered path rest end flag begun goes =
      let a3 = Advances-spin_lock rest (state_at 3 (word_read_at 0) 0 0 flag) end (instr.Set 0 (Register 1)) refl goes in
      let a4 = Advances-spin_lock a3.rest (state_at 4 1 0 0 flag) end (instr.Xchg 1 0) refl a3.executes in
      let a5 = Advances-spin_lock a4.rest (state_at 5 (word_read_at 4) 0 0 flag) end (instr.Cmp 0 (Number 0)) refl a4.executes in
      let a6 =
      Advances-spin_lock a5.rest (state_at 6 (word_read_at 4) 0 0 (word_read_at 4 == 0)) end (instr.Jne 12) refl a5.executes in
      let so_far : path ≡ 0 ∷ 1 ∷ 2 ∷ 3 ∷ 4 ∷ 5 ∷ 6 ∷ a6.rest =
      begun
      ∙ ap (λ p. 0 ∷ 1 ∷ 2 ∷ p)
      (a3.path_is ∙ ap (λ p. 3 ∷ p) (a4.path_is ∙ ap (λ p. 4 ∷ p) (a5.path_is ∙ ap (λ p. 5 ∷ p) a6.path_is))) in
      let takes : x.written (event t 4) ≡ 1 = a4.wrote refl in
      let onward : (b : Bool)
      → (word_read_at 4 == 0) ≡ b
      → ExecutesPath a6.rest (state_at (if not b then 12 else 7) (word_read_at 4) 0 0 (word_read_at 4 == 0)) end = λ b same.
      subst (λ c. ExecutesPath a6.rest (state_at (if not c then 12 else 7) (word_read_at 4) 0 0 (word_read_at 4 == 0)) end) same
      a6.executes in
      elim (cases_Bool (word_read_at 4 == 0)) [
        | inl free ↦
            inr (EntersSection-takes_lock path a6.rest end so_far takes (eqb-true (word_read_at 4) 0 free) (onward true free))
        | inr taken ↦
            (let last =
            ThreadExecutes-at_end_inv x t spin_lock_code a6.rest (state_at 12 (word_read_at 4) 0 0 (word_read_at 4 == 0)) end refl
            (onward false taken) in
            inl (record {
              path_is = so_far ∙ ap (λ p. 0 ∷ 1 ∷ 2 ∷ 3 ∷ 4 ∷ 5 ∷ 6 ∷ p) last.0;
              takes = takes;
              outside = ap (λ (s : ThreadState). slice_index s.regs 4) last.1;
            }))
      ]

  -- A thread that runs from the start of the code goes one of the three ways.
  SpinLockRun-of_run : (path : List ℕ) (end : ThreadState) → ExecutesPath path (state_at 0 0 0 0 false) end → SpinLockRun path end
  SpinLockRun-of_run path end goes =
      let a0 = Advances-spin_lock path (state_at 0 0 0 0 false) end (instr.Load 0 1) refl goes in
      let a1 = Advances-spin_lock a0.rest (state_at 1 (word_read_at 0) 0 0 false) end (instr.Cmp 0 (Number 0)) refl a0.executes in
      let a2 =
      Advances-spin_lock a1.rest (state_at 2 (word_read_at 0) 0 0 (word_read_at 0 == 0)) end (instr.Jne 12) refl a1.executes in
      let begun : path ≡ 0 ∷ 1 ∷ 2 ∷ a2.rest = a0.path_is ∙ ap (λ p. 0 ∷ p) (a1.path_is ∙ ap (λ p. 1 ∷ p) a2.path_is) in
      let onward : (b : Bool)
      → (word_read_at 0 == 0) ≡ b
      → ExecutesPath a2.rest (state_at (if not b then 12 else 3) (word_read_at 0) 0 0 (word_read_at 0 == 0)) end = λ b same.
      subst (λ c. ExecutesPath a2.rest (state_at (if not c then 12 else 3) (word_read_at 0) 0 0 (word_read_at 0 == 0)) end) same
      a2.executes in
      elim (cases_Bool (word_read_at 0 == 0)) [
        | inl free ↦ inr (Tried_or_Entered path a2.rest end (word_read_at 0 == 0) begun (onward true free))
        | inr taken ↦
            (let last =
            ThreadExecutes-at_end_inv x t spin_lock_code a2.rest (state_at 12 (word_read_at 0) 0 0 (word_read_at 0 == 0)) end refl
            (onward false taken) in
            inl (record {
              path_is = begun ∙ ap (λ p. 0 ∷ 1 ∷ 2 ∷ p) last.0;
              outside = ap (λ (s : ThreadState). slice_index s.regs 4) last.1;
            }))
      ]

-- ---- all threads

-- Each item of a list of copies is the copied item.
replicate-get : {A : Type 0} (n t : ℕ) (a d : A) → t < n → slice_index_or (replicate n a) t d ≡ a
replicate-get zero t a d in_range = absurd (omega (arith, in_range))
replicate-get (suc n) zero a d in_range = refl
replicate-get (suc n) (suc t) a d in_range = replicate-get n t a d (omega (arith, in_range))

module _ (n : ℕ) {x : Execution} {o : FinalState} (candidate : IsCandidate x86_language (spin_lock n) x o) where
  -- The spin lock with n threads.
  abbrev test : X86Test
  test = spin_lock n

  -- An event's thread is one of the n.
  pub thread_in_range-of_event : (e : MemoryEvent) → IsEvent x e → e.thread < n
  thread_in_range-of_event e is_event =
      omega (arith, event_thread_in_range candidate e is_event, length-replicate {A = List Instr} n spin_lock_code)

  -- A thread has the code of the spin lock.
  code_is : (t : ℕ) → t < n → thread_code test.threads t ≡ spin_lock_code
  code_is t in_range = replicate-get n t spin_lock_code [] in_range

  -- A thread goes one of the three ways, and if it was not inside its ESI says so.
  pub SpinLockRun-of_thread : (t : ℕ)
      → t < n
      → (end : ThreadState) × SpinLockRun x t (thread_code x.paths t) end × (slice_index_or o.regs t [] ≡ end.regs)
  SpinLockRun-of_thread t in_range =
      let run = candidate.threads t (omega (arith, in_range, length-replicate {A = List Instr} n spin_lock_code)) in
      let begins = ap first_state (replicate-get n t (0 ∷ 1 ∷ 0 ∷ 0 ∷ 0 ∷ 0 ∷ []) [] in_range) in
      let goes =
      subst₂ (λ (code : List Instr) (s : ThreadState). ThreadExecutes x86_language x t code (thread_code x.paths t) s run.end)
      (code_is t in_range) begins run.executes in
      (run.end, SpinLockRun-of_run x t (thread_code x.paths t) run.end goes, run.regs_are)

  -- A thread that tried to take the lock wrote 1.
  lock_write_is_one : (t : ℕ) → IsEvent x (event t 4) → x.written (event t 4) ≡ 1
  lock_write_is_one t is_event = elim (SpinLockRun-of_thread t (thread_in_range-of_event (event t 4) is_event)).1 [
    | inl turned ↦
        absurd (let low =
        member-below 3 4 (0 ∷ 1 ∷ 2 ∷ []) (omega arith, (omega arith, (omega arith, tt)))
        (subst (λ (path : List ℕ). Contains path 4) turned.path_is is_event) in
        omega (arith, low))
    | inr (inl tried) ↦ tried.takes
    | inr (inr entered) ↦ entered.takes
  ]

  -- A thread that does the instruction at 11, which lets the lock go, was inside.
  EntersSection-releases : (t : ℕ) → IsEvent x (event t 11) → EntersSection x t (thread_code x.paths t)
  EntersSection-releases t is_event = elim (SpinLockRun-of_thread t (thread_in_range-of_event (event t 11) is_event)).1 [
    | inl turned ↦
        absurd (let low =
        member-below 3 11 (0 ∷ 1 ∷ 2 ∷ []) (omega arith, (omega arith, (omega arith, tt)))
        (subst (λ (path : List ℕ). Contains path 11) turned.path_is is_event) in
        omega (arith, low))
    | inr (inl tried) ↦
        absurd (let all : AllByRecursion (λ k. k < 7) (0 ∷ 1 ∷ 2 ∷ 3 ∷ 4 ∷ 5 ∷ 6 ∷ []) =
        (omega arith, (omega arith, (omega arith, (omega arith, (omega arith, (omega arith, (omega arith, tt))))))) in
        let low =
        member-below 7 11 (0 ∷ 1 ∷ 2 ∷ 3 ∷ 4 ∷ 5 ∷ 6 ∷ []) all
        (subst (λ (path : List ℕ). Contains path 11) tried.path_is is_event) in
        omega (arith, low))
    | inr (inr entered) ↦ entered
  ]

  -- A thread that was inside did each of its instructions.
  pub IsEvent-of_inside : (t j : ℕ) → EntersSection x t (thread_code x.paths t) → Contains inside_path j → IsEvent x (event t j)
  IsEvent-of_inside t j entered is_member = subst (λ (path : List ℕ). Contains path j) (sym entered.path_is) is_member

  -- An event of this kind, on this location, is at one of the indices of such instructions.
  pub Contains-indices_of_event : (kind : Operation → Bool) (l : ℕ) (e : MemoryEvent)
      → IsEvent x e
      → operation_is x86_language test kind e ≡ true
      → location x86_language test e ≡ Some l
      → Contains (indices_of (is_kind_on kind l) spin_lock_code 0) e.position
  Contains-indices_of_event kind l e is_event is location_is =
      let code = code_is e.thread (thread_in_range-of_event e is_event) in
      Contains-indices_of_kind kind l e.position spin_lock_code
      (subst (λ (c : List Instr). option_map_or kind (option_map x86_operation (slice_get c e.position)) false ≡ true) code is)
      (subst (λ (c : List Instr). option_and_then location_of (option_map x86_operation (slice_get c e.position)) ≡ Some l) code
      location_is)

  -- An event of one of the n threads is of a kind exactly if the instruction at its position is.
  pub kind_at : (kind : Operation → Bool) (t j : ℕ) (b : Bool)
      → t < n
      → option_map_or kind (option_map x86_operation (slice_get spin_lock_code j)) false ≡ b
      → operation_is x86_language test kind (event t j) ≡ b
  kind_at kind t j b in_range is =
      ap (λ (c : List Instr). option_map_or kind (option_map x86_operation (slice_get c j)) false) (code_is t in_range) ∙ is

  -- An event of one of the n threads has the location of the instruction at its position.
  pub location_at : (t j : ℕ) (l : ℕ)
      → t < n
      → option_and_then location_of (option_map x86_operation (slice_get spin_lock_code j)) ≡ Some l
      → location x86_language test (event t j) ≡ Some l
  location_at t j l in_range is =
      ap (λ (c : List Instr). option_and_then location_of (option_map x86_operation (slice_get c j))) (code_is t in_range) ∙ is

  -- A thread that was inside acquired the lock.
  pub Acquires-of_inside : (t : ℕ) → t < n → EntersSection x t (thread_code x.paths t) → Acquires test x 1 (event t 4)
  Acquires-of_inside t in_range entered = record {
    reads = record {
      is_event = IsEvent-of_inside t 4 entered (4, omega arith, refl);
      location_is = location_at t 4 1 in_range refl;
      is_read = kind_at reads t 4 true in_range refl;
    };
    locked = kind_at is_locked t 4 true in_range refl;
    free = entered.free;
  }

  -- A write of the lock is by XCHG or by the last store.
  pub lock_write_positions : (e : MemoryEvent) → Writes x86_language test x e 1 → (e.position ≡ 4) ⊎ (e.position ≡ 11)
  lock_write_positions e writing =
      Contains-pair_inv 4 11 e.position
      (Contains-indices_of_event writes 1 e writing.is_event writing.is_write writing.location_is)

  -- The location is used as a lock.
  pub IsUsedAsLock-lock : IsUsedAsLock test x 1
  IsUsedAsLock-lock = record {
    taken = λ r writing locked zero.
        (let four : r.position ≡ 4 =
        Contains-singleton 4 r.position (Contains-indices_of_event is_locked 1 r writing.is_event locked writing.location_is) in
        let same : r ≡ event r.thread 4 = ap (event r.thread) four in
        omega (arith, ap x.written same, zero, lock_write_is_one r.thread (subst (IsEvent x) same writing.is_event)));
    released = λ u writing store.
        (let last : u.position ≡ 11 =
        Contains-singleton 11 u.position (Contains-indices_of_event is_store 1 u writing.is_event store writing.location_is) in
        let same : u ≡ event u.thread 11 = ap (event u.thread) last in
        let entered = EntersSection-releases u.thread (subst (IsEvent x) same writing.is_event) in (
          event u.thread 4,
          Acquires-of_inside u.thread (thread_in_range-of_event u writing.is_event) entered,
          record {
            po = record {
              first_event = IsEvent-of_inside u.thread 4 entered (4, omega arith, refl);
              second_event = writing.is_event;
              same_thread = refl;
              position_lt = omega (arith, last);
            };
            writes = writing;
            first = λ v before after also. elim (lock_write_positions v also) [
              | inl four ↦ omega (arith, four, before.position_lt)
              | inr eleven ↦ omega (arith, eleven, last, after.position_lt)
            ];
          },
        ));
  }
