-- The classic tests: they are well-formed, searches through their runs find what is forbidden, and a run of
-- store buffering in x86 has both loads early. The laws on classic tests cite these lemmas.
use Rattle.lw_bench.proofs.Common.{registers, ◌≡◌, ℕ, zero, suc, ◌^◌, ◌<◌, ◌≤◌, ◌==◌, not, Bool, true, false}
use Rattle.lw_bench.proofs.Common.{List, [], ◌∷◌, refl, sym, ap, ◌∙◌, subst, arith, slice_index, length, None}
use Rattle.lw_bench.proofs.Common.{Some, slice_get, codes, replicate, slice_index_or, Contains}
use Rattle.lw_bench.proofs.Common.{is_ascii_digit, AllByRecursion, ForSome, false≢true, All-nil, All-cons}
use Rattle.lw_bench.proofs.Common.{none-some, same_Some, is_name_byte, Formula, nodes, is_reserved}
use Rattle.lw_bench.proofs.Common.{IsUnreservedName, IsTestName, FinalState, IsRegisterIndex, IsWordNumber}
use Rattle.lw_bench.proofs.Common.{MentionsOnly, IsWellFormedHead, Arch, X86, Quant, Exists, NotExists}
use Rattle.lw_bench.proofs.Common.{Number, branch_target, x86_language, x86_operation, IsWellFormedProgram}
use Rattle.lw_bench.proofs.Common.{X86Test, IsWellFormedStatement, IsWellFormedThread, Instr, Event, Step}
use Rattle.lw_bench.proofs.Common.{Drain, initial_state, SourceOutcome, flat_memory, is_true, MachineState}
use Rattle.lw_bench.proofs.Common.{Processor, IsMachineOutcome, MachineRunsTo, initial_machine_state}
use Rattle.lw_bench.proofs.Common.{machine_outcome, state, MachineTransition, Ok, two_threads}
use Rattle.lw_bench.proofs.Common.{both_loads_are_early, flag_without_message, store_buffering}
use Rattle.lw_bench.proofs.Common.{store_buffering_in_x86, message_passing_in_x86, not-true}
use Rattle.lw_bench.proofs.Searches.{every_end_satisfies, every_end_satisfies-sound}
use Rattle.lw_bench.proofs.Searches.{every_machine_end_satisfies, every_machine_end_satisfies-sound}
use Rattle.lw_litmus.specs.declared.instr.Instr.TheVariants as instr

-- Tests whether the outcome does not have both loads of store buffering early.
abbrev has_late_load : FinalState → Bool
has_late_load o = not (is_true store_buffering.head.proposition o)

-- Within five steps every run of store buffering by interleaving ends, with an outcome that does not have both loads early.
search_of_store_buffering : every_end_satisfies store_buffering.threads has_late_load 5 (initial_state store_buffering) ≡ true
unfolding every_end_satisfies
search_of_store_buffering = refl

-- By interleaving, no outcome of store buffering has both loads early.
pub store_buffering_forbidden : (o : FinalState)
    → SourceOutcome store_buffering o
    → is_true store_buffering.head.proposition o ≡ false
store_buffering_forbidden o run =
    not-true _
    (subst (λ e. has_late_load e ≡ true) (sym run.1.outcome_is)
    (every_end_satisfies-sound store_buffering.threads has_late_load 5 run.0 (initial_state store_buffering) run.1.end
    search_of_store_buffering run.1.ran run.1.final))

-- Tests whether the outcome does not have the flag without the message.
abbrev has_no_flag_without_message : FinalState → Bool
has_no_flag_without_message o = not (is_true message_passing_in_x86.head.proposition o)

-- Within seven events every run of message passing over flat memory ends, with an outcome that does not have the flag
-- without the message.
search_of_message_passing : every_machine_end_satisfies message_passing_in_x86.threads has_no_flag_without_message 7
    (initial_machine_state message_passing_in_x86 message_passing_in_x86.head.init_words)
    ≡ true
unfolding every_machine_end_satisfies
search_of_message_passing = refl

-- No outcome of message passing in x86 has the flag without the message.
pub message_passing_forbidden : (o : FinalState)
    → IsMachineOutcome flat_memory message_passing_in_x86 message_passing_in_x86.head.init_words o
    → is_true message_passing_in_x86.head.proposition o ≡ false
message_passing_forbidden o run =
    not-true _
    (subst (λ e. has_no_flag_without_message e ≡ true) (sym run.1.outcome_is)
    (every_machine_end_satisfies-sound message_passing_in_x86.threads has_no_flag_without_message 7 run.0
    (initial_machine_state message_passing_in_x86 message_passing_in_x86.head.init_words) run.1.end search_of_message_passing
    run.1.ran run.1.final))

-- ---- the x86 tests are well-formed, so their outcomes over flat memory are those over caches

-- A name of one byte, which is a name byte but no digit, is a location's name if it is not reserved.
pub one_letter : (w : List ℕ) (b : ℕ)
    → w ≡ b ∷ []
    → is_name_byte b ≡ true
    → is_ascii_digit b ≡ false
    → is_reserved (b ∷ []) ≡ false
    → IsUnreservedName w
one_letter w b is word front free =
    rw is ((record { not_empty = omega arith; are_name_bytes = (word, tt); front = front }, omega arith), free)

-- `x` is not in the table of `y`, so the table of both has no duplicates.
not-Contains-x_in_y_table : Contains (codes "y" ∷ []) (codes "x") → ⊥
not-Contains-x_in_y_table c = go c.0 c.1 c.2
  where
    -- `x` is at no index of the table of `y`.
    go : (k : ℕ) → k < 1 → slice_index_or (codes "y" ∷ []) k (codes "x") ≡ codes "x" → ⊥
    go zero l e = absurd (false≢true (ap (λ (bytes : List ℕ). slice_index bytes 0 == 120) e))
    go (suc k) l e = omega (arith, l)

-- The head of a test of two threads is well-formed if its name and its proposition are.
IsWellFormedHead-two_threads : (name : List ℕ) (arch : Arch) (quant : Quant) (proposition : Formula)
    → IsTestName name
    → nodes proposition ≤ 256
    → MentionsOnly 2 2 proposition
    → IsWellFormedHead (two_threads name arch quant proposition)
IsWellFormedHead-two_threads name arch quant proposition named few speaks = record {
  name = named;
  has_thread = omega arith;
  bounded = omega arith;
  table = record {
    bounded = omega arith;
    are_unreserved = (one_letter _ 120 refl refl refl refl, (one_letter (codes "y") 121 refl refl refl refl, tt));
    without_duplicates = (not-Contains-x_in_y_table, ((λ c. omega (arith, c.1)), tt));
  };
  regs = refl;
  register_counts = (refl, (refl, tt));
  register_words = (IsWordNumber-zeros, (IsWordNumber-zeros, tt));
  words = refl;
  location_words = (omega arith, (omega arith, tt));
  listed_in_range = tt;
  ascending = tt;
  nodes_bounded = few;
  condition = speaks;
}
  where
    -- Six zeros are words: the registers at the start.
    IsWordNumber-zeros : AllByRecursion IsWordNumber (replicate registers 0)
    IsWordNumber-zeros = (omega arith, (omega arith, (omega arith, (omega arith, (omega arith, (omega arith, tt))))))

-- The instruction is a well-formed one of a test of two locations, and no jump.
record IsPlain (i : Instr) : Type 0 where
  formed : IsWellFormedStatement x86_language 2 i
  goes_on : branch_target (x86_operation i) ≡ None

-- A store of a word to one of the two locations is a plain instruction.
IsPlain-store : (x n : ℕ) → x < 2 → n < 2 ^ 32 → IsPlain (instr.Store x (Number n))
IsPlain-store x n there word = record {
  formed = (
    λ y same. subst (λ k. k < 2) (same_Some x y same) there,
    All-nil IsRegisterIndex,
    All-cons IsWordNumber n [] word (All-nil IsWordNumber),
  );
  goes_on = refl;
}

-- A load of one of the two locations is a plain instruction.
IsPlain-load : (d x : ℕ) → d < registers → x < 2 → IsPlain (instr.Load d x)
IsPlain-load d x register there = record {
  formed = (
    λ y same. subst (λ k. k < 2) (same_Some x y same) there,
    All-cons IsRegisterIndex d [] register (All-nil IsRegisterIndex),
    All-nil IsWordNumber,
  );
  goes_on = refl;
}

-- Two plain instructions are a well-formed thread.
IsWellFormedThread-two_plain : {first second : Instr}
    → IsPlain first
    → IsPlain second
    → IsWellFormedThread x86_language 2 (first ∷ second ∷ [])
IsWellFormedThread-two_plain {first} {second} a b = record {
  short = omega arith;
  statements_formed =
      All-cons (IsWellFormedStatement x86_language 2) first (second ∷ []) a.formed
      (All-cons (IsWellFormedStatement x86_language 2) second [] b.formed (All-nil _));
  forward = branches_forward-two;
}
  where
    -- An instruction that is no jump has no target.
    branch_forward-IsPlain : (i : Instr) (k : ℕ)
        → IsPlain i
        → ForSome (branch_target (x86_operation i)) (λ to. (k < to) × (to ≤ 2))
    branch_forward-IsPlain i k plain to is = absurd (none-some to (sym plain.goes_on ∙ is))

    -- In a thread of two plain instructions all jumps lead forward: there are none.
    branches_forward-two : (k : ℕ) (s : Instr)
        → slice_get (first ∷ second ∷ []) k ≡ Some s
        → ForSome (branch_target (x86_operation s)) (λ to. (k < to) × (to ≤ 2))
    branches_forward-two zero s e = branch_forward-IsPlain s 0 (subst IsPlain (same_Some first s e) a)
    branches_forward-two (suc zero) s e = branch_forward-IsPlain s 1 (subst IsPlain (same_Some second s e) b)
    branches_forward-two (suc (suc k)) s e = cc

-- The x86 test has two well-formed threads, two locations and a well-formed head.
record IsTestOfTwoThreads (test : X86Test) : Type 0 where
  first : List Instr
  second : List Instr
  threads : test.threads ≡ first ∷ second ∷ []
  as_many : test.head.threads ≡ 2
  locations : length test.head.locs ≡ 2
  arch : test.head.arch ≡ X86
  head : IsWellFormedHead test.head
  first_formed : IsWellFormedThread x86_language 2 first
  second_formed : IsWellFormedThread x86_language 2 second

-- A test that satisfies `IsTestOfTwoThreads` is well-formed.
IsWellFormedProgram-IsTestOfTwoThreads : (test : X86Test) → IsTestOfTwoThreads test → IsWellFormedProgram test
IsWellFormedProgram-IsTestOfTwoThreads test two = record {
  head = two.head;
  arch = two.arch;
  as_many = ap length two.threads ∙ sym two.as_many;
  code =
      rw (two.threads, two.locations)
      (All-cons (IsWellFormedThread x86_language 2) two.first (two.second ∷ []) two.first_formed
      (All-cons (IsWellFormedThread x86_language 2) two.second [] two.second_formed
      (All-nil (IsWellFormedThread x86_language 2))));
}

-- Store buffering in x86 is well-formed.
pub IsWellFormedProgram-store_buffering : IsWellFormedProgram store_buffering_in_x86
IsWellFormedProgram-store_buffering = IsWellFormedProgram-IsTestOfTwoThreads store_buffering_in_x86 (record {
  first = instr.Store 0 (Number 1) ∷ instr.Load 0 1 ∷ [];
  second = instr.Store 1 (Number 1) ∷ instr.Load 0 0 ∷ [];
  threads = refl;
  as_many = refl;
  locations = refl;
  arch = refl;
  head =
      IsWellFormedHead-two_threads (codes "SB-x86") X86 Exists both_loads_are_early (record {
        not_empty = omega arith;
        short = omega arith;
        are_graphic_bytes = (refl, (refl, (refl, (refl, (refl, (refl, tt))))));
      }) (omega arith) ((omega arith, omega arith, omega arith), (omega arith, omega arith, omega arith));
  first_formed =
      IsWellFormedThread-two_plain (IsPlain-store 0 1 (omega arith) (omega arith)) (IsPlain-load 0 1 (omega arith) (omega arith));
  second_formed =
      IsWellFormedThread-two_plain (IsPlain-store 1 1 (omega arith) (omega arith)) (IsPlain-load 0 0 (omega arith) (omega arith));
})

-- Message passing in x86 is well-formed.
pub IsWellFormedProgram-message_passing : IsWellFormedProgram message_passing_in_x86
IsWellFormedProgram-message_passing = IsWellFormedProgram-IsTestOfTwoThreads message_passing_in_x86 (record {
  first = instr.Store 0 (Number 1) ∷ instr.Store 1 (Number 1) ∷ [];
  second = instr.Load 0 1 ∷ instr.Load 1 0 ∷ [];
  threads = refl;
  as_many = refl;
  locations = refl;
  arch = refl;
  head =
      IsWellFormedHead-two_threads (codes "MP-x86") X86 NotExists flag_without_message (record {
        not_empty = omega arith;
        short = omega arith;
        are_graphic_bytes = (refl, (refl, (refl, (refl, (refl, (refl, tt))))));
      }) (omega arith) ((omega arith, omega arith, omega arith), (omega arith, omega arith, omega arith));
  first_formed =
      IsWellFormedThread-two_plain (IsPlain-store 0 1 (omega arith) (omega arith))
      (IsPlain-store 1 1 (omega arith) (omega arith));
  second_formed =
      IsWellFormedThread-two_plain (IsPlain-load 0 1 (omega arith) (omega arith)) (IsPlain-load 1 0 (omega arith) (omega arith));
})

-- ---- both threads store, both load, and then both drain

-- The events of the run with both loads early.
early_events : List Event
early_events = Step 0 ∷ Step 1 ∷ Step 0 ∷ Step 1 ∷ Drain 0 ∷ Drain 1 ∷ []

-- A processor at this position with this store buffer, whose registers are all 0.
abbrev processor_at : ℕ → List (ℕ × ℕ) → Processor
processor_at k buffer = record { position = k; regs = replicate registers 0; zero_flag = false; buffer = buffer }

-- The initial state of store buffering.
abbrev store_buffering_start : MachineState (List ℕ)
store_buffering_start = initial_machine_state store_buffering_in_x86 (replicate 2 0)

-- The state in which the first thread's store is in its store buffer, and nothing else is done.
abbrev one_stored : MachineState (List ℕ)
one_stored = state (processor_at 1 ((0, 1) ∷ []) ∷ processor_at 0 [] ∷ []) (0 ∷ 0 ∷ [])

-- The state in which both stores are in their store buffers, and nothing is loaded.
abbrev both_stored : MachineState (List ℕ)
both_stored = state (processor_at 1 ((0, 1) ∷ []) ∷ processor_at 1 ((1, 1) ∷ []) ∷ []) (0 ∷ 0 ∷ [])

-- The state in which the first thread has loaded 0, and both stores are in their store buffers.
abbrev one_loaded : MachineState (List ℕ)
one_loaded = state (processor_at 2 ((0, 1) ∷ []) ∷ processor_at 1 ((1, 1) ∷ []) ∷ []) (0 ∷ 0 ∷ [])

-- The state in which both threads have loaded 0, and both stores are in their store buffers.
abbrev both_loaded : MachineState (List ℕ)
both_loaded = state (processor_at 2 ((0, 1) ∷ []) ∷ processor_at 2 ((1, 1) ∷ []) ∷ []) (0 ∷ 0 ∷ [])

-- The state in which both threads have loaded 0, and the first store is in memory.
abbrev one_drained : MachineState (List ℕ)
one_drained = state (processor_at 2 [] ∷ processor_at 2 ((1, 1) ∷ []) ∷ []) (1 ∷ 0 ∷ [])

-- The final state: both threads have loaded 0, and both stores are in memory.
abbrev both_drained : MachineState (List ℕ)
both_drained = state (processor_at 2 [] ∷ processor_at 2 [] ∷ []) (1 ∷ 1 ∷ [])

-- The event leads from the first state to the second.
abbrev EventReaches : Event → MachineState (List ℕ) → MachineState (List ℕ) → Type 0
EventReaches e s mid = MachineTransition flat_memory store_buffering_in_x86.threads e s (Ok tt) mid

-- The first thread's store enters its store buffer.
first_stores : EventReaches (Step 0) store_buffering_start one_stored
first_stores = (processor_at 1 ((0, 1) ∷ []), 0 ∷ 0 ∷ [], (refl, refl, refl), refl)

-- The second thread's store enters its store buffer.
second_stores : EventReaches (Step 1) one_stored both_stored
second_stores = (processor_at 1 ((1, 1) ∷ []), 0 ∷ 0 ∷ [], (refl, refl, refl), refl)

-- The first thread loads 0, which memory still has.
first_loads : EventReaches (Step 0) both_stored one_loaded
first_loads = (processor_at 2 ((0, 1) ∷ []), 0 ∷ 0 ∷ [], (Some 0, refl, refl, (refl, refl)), refl)

-- The second thread loads 0, which memory still has.
second_loads : EventReaches (Step 1) one_loaded both_loaded
second_loads = (processor_at 2 ((1, 1) ∷ []), 0 ∷ 0 ∷ [], (Some 0, refl, refl, (refl, refl)), refl)

-- The first store reaches memory.
first_drains : EventReaches (Drain 0) both_loaded one_drained
first_drains = (processor_at 2 [], 1 ∷ 0 ∷ [], (None, refl, refl, (refl, refl)), refl)

-- The second store reaches memory.
second_drains : EventReaches (Drain 1) one_drained both_drained
second_drains = (processor_at 2 [], 1 ∷ 1 ∷ [], (None, refl, refl, (refl, refl)), refl)

-- The events with both loads early are a run of the flat machine to a final state.
early_run : MachineRunsTo flat_memory store_buffering_in_x86.threads early_events store_buffering_start both_drained
unfolding early_events
early_run = (
  one_stored,
  first_stores,
  (
    both_stored,
    second_stores,
    (one_loaded, first_loads, (both_loaded, second_loads, (one_drained, first_drains, (both_drained, second_drains, refl)))),
  ),
)

-- Store buffering in x86 has an outcome with both loads early.
pub store_buffering_allowed : (o : FinalState)
    × IsMachineOutcome flat_memory store_buffering_in_x86 store_buffering_in_x86.head.init_words o
    × (is_true store_buffering_in_x86.head.proposition o ≡ true)
store_buffering_allowed = (
  machine_outcome flat_memory both_drained,
  (early_events, record { end = both_drained; ran = early_run; final = refl; outcome_is = refl }),
  refl,
)
