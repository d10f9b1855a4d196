-- Store buffering, worked: an execution in which both loads read the initial words satisfies the axioms. An
-- example of the axioms, by hand.
use Rattle.lw_axiomatic.proofs.Common.{ThreadExecutesTo, ◌≡◌, ℕ, zero, suc, ◌-◌, ◌<◌, ◌⊎◌, inl, inr, Bool}
use Rattle.lw_axiomatic.proofs.Common.{true, Some, None, refl, sym, ap₂, ◌∙◌, subst, arith, true≢false, []}
use Rattle.lw_axiomatic.proofs.Common.{◌∷◌, Contains, slice_index, slice_index_or, replicate, none-some}
use Rattle.lw_axiomatic.proofs.Common.{same_Some, thread_code, MemoryEvent, Execution, reads, operation_is}
use Rattle.lw_axiomatic.proofs.Common.{location, Reads, Writes, Po, Rf, Fr, PoLoc, Ppo, IsLast, Coherence}
use Rattle.lw_axiomatic.proofs.Common.{GlobalHappensBefore, IsAllowed, first_state, x86_language, ◌||◌}
use Rattle.lw_axiomatic.proofs.Common.{store_buffering_in_x86, both_loads_early, not-Contains-nil}
use Rattle.lw_axiomatic.proofs.Common.{Contains-cons}
use Rattle.lw_axiomatic.proofs.EventLists.{event}
use Rattle.lw_litmus.specs.Operations as operations

-- The execution: each thread stores 1 and loads; all reads are of initial words.
abbrev early_execution : Execution
early_execution = record { paths = replicate 2 (0 ∷ 1 ∷ []); read = λ e. 0; written = λ e. 1; rf = λ e. None; co = λ e. 0 }

-- A position on a path is 0, that of the store, or 1, that of the load.
position_cases : (j : ℕ) → Contains (0 ∷ 1 ∷ []) j → (j ≡ 0) ⊎ (j ≡ 1)
position_cases j is_member = elim (Contains-cons 0 j (1 ∷ []) is_member) [
  | inl is_head ↦ inl (sym is_head)
  | inr in_tail ↦
      elim (Contains-cons 1 j [] in_tail) [ inl is_head ↦ inr (sym is_head) | inr in_tail ↦ absurd (not-Contains-nil j in_tail) ]
]

-- What holds of each of the two events of each thread holds of all events of the execution.
events-cases : (P : ℕ → ℕ → Type 0)
    → P 0 0
    → P 0 1
    → P 1 0
    → P 1 1
    → (t j : ℕ)
    → Contains (thread_code early_execution.paths t) j
    → P t j
events-cases P at_00 at_01 at_10 at_11 zero j on_path = elim (position_cases j on_path) [
  | inl is_store ↦ subst (P 0) (sym is_store) at_00
  | inr is_load ↦ subst (P 0) (sym is_load) at_01
]
events-cases P at_00 at_01 at_10 at_11 (suc zero) j on_path = elim (position_cases j on_path) [
  | inl is_store ↦ subst (P 1) (sym is_store) at_10
  | inr is_load ↦ subst (P 1) (sym is_load) at_11
]
events-cases P at_00 at_01 at_10 at_11 (suc (suc t)) j on_path = absurd (not-Contains-nil j on_path)

-- A write to l is at position 0 of thread l.
Writes-cases : (e : MemoryEvent) (l : ℕ)
    → Writes x86_language store_buffering_in_x86 early_execution e l
    → (e.position ≡ 0) × (e.thread ≡ l)
Writes-cases e l writing =
    let Claim : ℕ → ℕ → Type 0 = λ t j.
    location x86_language store_buffering_in_x86 (event t j) ≡ Some l
    → operation_is x86_language store_buffering_in_x86 (operations.writes) (event t j) ≡ true
    → (j ≡ 0) × (t ≡ l) in
    let at_00 : Claim 0 0 = λ at is_write. (refl, same_Some 0 l at) in
    let at_01 : Claim 0 1 = λ at is_write. absurd (true≢false (sym is_write)) in
    let at_10 : Claim 1 0 = λ at is_write. (refl, same_Some 1 l at) in
    let at_11 : Claim 1 1 = λ at is_write. absurd (true≢false (sym is_write)) in
    events-cases Claim at_00 at_01 at_10 at_11 e.thread e.position writing.is_event writing.location_is writing.is_write

-- A read is at position 1 of its thread, and of one of the two locations.
Reads-cases : (e : MemoryEvent) (l : ℕ)
    → Reads x86_language store_buffering_in_x86 early_execution e l
    → (e.position ≡ 1) × (l < 2)
Reads-cases e l reading =
    let Claim : ℕ → ℕ → Type 0 = λ t j.
    location x86_language store_buffering_in_x86 (event t j) ≡ Some l
    → operation_is x86_language store_buffering_in_x86 reads (event t j) ≡ true
    → (j ≡ 1) × (l < 2) in
    let at_00 : Claim 0 0 = λ at is_read. absurd (true≢false (sym is_read)) in
    let at_01 : Claim 0 1 = λ at is_read. (refl, omega (arith, same_Some 1 l at)) in
    let at_10 : Claim 1 0 = λ at is_read. absurd (true≢false (sym is_read)) in
    let at_11 : Claim 1 1 = λ at is_read. (refl, omega (arith, same_Some 0 l at)) in
    events-cases Claim at_00 at_01 at_10 at_11 e.thread e.position reading.is_event reading.location_is reading.is_read

-- Ranks for both axioms, along which their relations increase: loads have 0, stores 1.
abbrev rank : MemoryEvent → ℕ
rank e = 1 - e.position

-- From-reads increases the ranks, from a load to a store.
rank_increases-Fr : (r w : MemoryEvent) → Fr x86_language store_buffering_in_x86 early_execution r w → rank r < rank w
rank_increases-Fr r w fr = omega (arith, (Reads-cases r fr.on_location fr.read).0, (Writes-cases w fr.on_location fr.write).0)

-- No event reads from another.
no_Rf : (w r : MemoryEvent) → Rf x86_language store_buffering_in_x86 early_execution w r → ⊥
no_Rf w r rf = none-some w rf.source_is

-- Tests whether the kinds of two events preserve their program order, as `Ppo` does.
abbrev preserves_order : MemoryEvent → MemoryEvent → Bool
preserves_order a b =
    operation_is x86_language store_buffering_in_x86 reads a
    || (operation_is x86_language store_buffering_in_x86 operations.writes b
    || (operation_is x86_language store_buffering_in_x86 operations.is_fence a
    || operation_is x86_language store_buffering_in_x86 operations.is_fence b))

-- What holds of the two events of thread 0, and of those of thread 1, holds of each pair in program order.
Po-cases : (P : MemoryEvent → MemoryEvent → Type 0)
    → P (event 0 0) (event 0 1)
    → P (event 1 0) (event 1 1)
    → (a b : MemoryEvent)
    → Po early_execution a b
    → P a b
Po-cases P thread_0 thread_1 a b po =
    let Second : (t j u k : ℕ) → Type 0 = λ t j u k. t ≡ u → j < k → P (event t j) (event u k) in
    let First : ℕ → ℕ → Type 0 = λ t j. (u k : ℕ) → Contains (thread_code early_execution.paths u) k → Second t j u k in
    let after_00 : First 0 0 =
    events-cases (Second 0 0) (λ same lt. absurd (omega (arith, lt))) (λ same lt. thread_0)
    (λ same lt. absurd (omega (arith, same))) (λ same lt. absurd (omega (arith, same))) in
    let after_01 : First 0 1 =
    events-cases (Second 0 1) (λ same lt. absurd (omega (arith, lt))) (λ same lt. absurd (omega (arith, lt)))
    (λ same lt. absurd (omega (arith, same))) (λ same lt. absurd (omega (arith, same))) in
    let after_10 : First 1 0 =
    events-cases (Second 1 0) (λ same lt. absurd (omega (arith, same))) (λ same lt. absurd (omega (arith, same)))
    (λ same lt. absurd (omega (arith, lt))) (λ same lt. thread_1) in
    let after_11 : First 1 1 =
    events-cases (Second 1 1) (λ same lt. absurd (omega (arith, same))) (λ same lt. absurd (omega (arith, same)))
    (λ same lt. absurd (omega (arith, lt))) (λ same lt. absurd (omega (arith, lt))) in
    events-cases First after_00 after_01 after_10 after_11 a.thread a.position po.first_event b.thread b.position po.second_event
    po.same_thread po.position_lt

-- No program order is preserved: each thread has a store followed by a load.
no_Ppo : (a b : MemoryEvent) → Ppo x86_language store_buffering_in_x86 early_execution a b → ⊥
no_Ppo a b ppo =
    Po-cases (λ a b. preserves_order a b ≡ true → ⊥) (λ f. true≢false (sym f)) (λ f. true≢false (sym f)) a b ppo.po
    ppo.is_preserved

-- No two events of a thread are on the same location.
no_PoLoc : (a b : MemoryEvent) → PoLoc x86_language store_buffering_in_x86 early_execution a b → ⊥
no_PoLoc a b poloc =
    Po-cases (λ a b.
    location x86_language store_buffering_in_x86 a ≡ Some poloc.on_location
    → location x86_language store_buffering_in_x86 b ≡ Some poloc.on_location
    → ⊥) (λ f g. omega (arith, same_Some 0 poloc.on_location f, same_Some 1 poloc.on_location g))
    (λ f g. omega (arith, same_Some 1 poloc.on_location f, same_Some 0 poloc.on_location g)) a b poloc.po poloc.first_location_is
    poloc.second_location_is

-- The relations on one location have no cycle.
coherence : Coherence store_buffering_in_x86 early_execution
coherence = record {
  rank = rank;
  increases = λ a b. elim [
    | inl poloc ↦ absurd (no_PoLoc a b poloc)
    | inr (inl rf) ↦ absurd (no_Rf a b rf)
    | inr (inr (inl co)) ↦ absurd (omega (arith, co.co_lt))
    | inr (inr (inr fr)) ↦ rank_increases-Fr a b fr
  ];
}

-- Global happens-before has no cycle.
happens_before : GlobalHappensBefore store_buffering_in_x86 early_execution
happens_before = record {
  rank = rank;
  increases = λ a b. elim [
    | inl ppo ↦ absurd (no_Ppo a b ppo)
    | inr (inl rfe) ↦ absurd (no_Rf a b rfe.rf)
    | inr (inr (inl co)) ↦ absurd (omega (arith, co.co_lt))
    | inr (inr (inr fr)) ↦ rank_increases-Fr a b fr
  ];
}

-- Each thread executes its path, and ends with the outcome's registers.
threads : (t : ℕ)
    → t < 2
    → ThreadExecutesTo x86_language early_execution t (thread_code store_buffering_in_x86.threads t)
    (thread_code early_execution.paths t) (first_state (slice_index_or store_buffering_in_x86.head.init_regs t []))
    both_loads_early
threads zero l = record {
  end = _;
  executes = record {
    position_is = refl;
    statement = _;
    statement_at = refl;
    written_is = λ w. refl;
    rest = record {
      position_is = refl;
      statement = _;
      statement_at = refl;
      written_is = λ w. absurd (true≢false (sym w));
      rest = (refl, refl);
    };
  };
  regs_are = refl;
}
threads (suc zero) l = record {
  end = _;
  executes = record {
    position_is = refl;
    statement = _;
    statement_at = refl;
    written_is = λ w. refl;
    rest = record {
      position_is = refl;
      statement = _;
      statement_at = refl;
      written_is = λ w. absurd (true≢false (sym w));
      rest = (refl, refl);
    };
  };
  regs_are = refl;
}
threads (suc (suc t)) l = absurd (omega (arith, l))

-- The initial word of each location is 0.
initial_words : (l : ℕ) → l < 2 → 0 ≡ slice_index store_buffering_in_x86.head.init_words l
initial_words zero lt = refl
initial_words (suc zero) lt = refl
initial_words (suc (suc l)) lt = absurd (omega (arith, lt))

-- The last word of each location is that of the outcome: it is written by the location's only store.
IsLast-of_outcome : (l : ℕ)
    → l < 2
    → IsLast x86_language store_buffering_in_x86 early_execution l (slice_index both_loads_early.words l)
IsLast-of_outcome zero lt =
    inr (event 0 0, record { is_event = (0, omega arith, refl); location_is = refl; is_write = refl }, (λ f w. omega arith), refl)
IsLast-of_outcome (suc zero) lt =
    inr (event 1 0, record { is_event = (0, omega arith, refl); location_is = refl; is_write = refl }, (λ f w. omega arith), refl)
IsLast-of_outcome (suc (suc l)) lt = absurd (omega (arith, lt))

-- The axioms allow the outcome with both loads early.
pub IsAllowed-both_loads_early : IsAllowed store_buffering_in_x86 both_loads_early
IsAllowed-both_loads_early = record {
  execution = early_execution;
  candidate = record {
    as_many = refl;
    threads = threads;
    rf = λ r l reading. initial_words l (Reads-cases r l reading).1;
    co = λ w v l ww wv same.
        ap₂ event ((Writes-cases w l ww).1 ∙ sym (Writes-cases v l wv).1) ((Writes-cases w l ww).0 ∙ sym (Writes-cases v l wv).0);
    words = IsLast-of_outcome;
    of_test = record { regs_of = refl; register_counts = (refl, (refl, tt)); words_of = refl };
  };
  axioms = record { coherence = coherence; happens_before = happens_before };
}
