-- Triangular races, worked: store buffering has one after a thread has stored, and in message passing no thread both stores and loads. An
-- example of the law on races, by hand.
use Rattle.lw_axiomatic.proofs.Common.{◌≡◌, ℕ, zero, suc, true, [], Some, refl, sym, ap, ◌∙◌, arith}
use Rattle.lw_axiomatic.proofs.Common.{true≢false, slice_get, none-some, same_Some, thread_code}
use Rattle.lw_axiomatic.proofs.Common.{store_buffering_in_x86, message_passing_in_x86, Instr, is_store}
use Rattle.lw_axiomatic.proofs.Common.{is_load, x86_language, x86_operation, Interleaved, start}
use Rattle.lw_axiomatic.proofs.Common.{HasTriangularRace}

-- The initial state of store buffering.
abbrev race_start : Interleaved
race_start = start x86_language store_buffering_in_x86

-- Store buffering has a triangular race.
pub HasTriangularRace-store_buffering : HasTriangularRace store_buffering_in_x86
HasTriangularRace-store_buffering = record {
  q = 0;
  p = 1;
  threads_differ = λ e. omega (arith, e);
  order_before = [];
  state_before = race_start;
  run_before = refl;
  state_after_store = _;
  store = record { thread = _; statement = _; thread_at = refl; statement_at = refl; state_is = refl };
  stores = refl;
  order_since = [];
  state_now = _;
  run_since = refl;
  l = 1;
  locations_differ = λ e. (let bad : 0 ≡ 1 = same_Some 0 1 e in omega (arith, bad));
  load_is_next =
      record { thread = _; instruction = _; thread_at = refl; instruction_at = refl; has_kind = refl; location_is = refl };
  write_is_next =
      record { thread = _; instruction = _; thread_at = refl; instruction_at = refl; has_kind = refl; location_is = refl };
}

-- In message passing the first thread has no load.
no_load_in_first_thread : (j : ℕ) (i : Instr)
    → slice_get (thread_code message_passing_in_x86.threads 0) j ≡ Some i
    → is_load (x86_operation i) ≡ true
    → ⊥
no_load_in_first_thread zero i found_at load =
    true≢false (sym load ∙ ap (λ h. is_load (x86_operation h)) (sym (same_Some _ i found_at)))
no_load_in_first_thread (suc zero) i found_at load =
    true≢false (sym load ∙ ap (λ h. is_load (x86_operation h)) (sym (same_Some _ i found_at)))
no_load_in_first_thread (suc (suc j)) i found_at load = none-some i found_at

-- In message passing the second thread has no store.
no_store_in_second_thread : (t j : ℕ) (i : Instr)
    → slice_get (thread_code message_passing_in_x86.threads (suc t)) j ≡ Some i
    → is_store (x86_operation i) ≡ true
    → ⊥
no_store_in_second_thread zero zero i found_at store =
    true≢false (sym store ∙ ap (λ h. is_store (x86_operation h)) (sym (same_Some _ i found_at)))
no_store_in_second_thread zero (suc zero) i found_at store =
    true≢false (sym store ∙ ap (λ h. is_store (x86_operation h)) (sym (same_Some _ i found_at)))
no_store_in_second_thread zero (suc (suc j)) i found_at store = none-some i found_at
no_store_in_second_thread (suc t) j i found_at store = none-some i found_at

-- Message passing has no triangular race.
pub not-HasTriangularRace-message_passing : HasTriangularRace message_passing_in_x86 → ⊥
not-HasTriangularRace-message_passing race =
    no_store_and_load_in_thread race.q race.store.thread.position race.store.statement race.store.statement_at race.stores
    race.load_is_next.thread.position race.load_is_next.instruction race.load_is_next.instruction_at race.load_is_next.has_kind
  where
    -- In message passing no thread has both a store and a load: thread 0 has no load, and the other no store.
    no_store_and_load_in_thread : (q j : ℕ) (i : Instr)
        → slice_get (thread_code message_passing_in_x86.threads q) j ≡ Some i
        → is_store (x86_operation i) ≡ true
        → (k : ℕ) (h : Instr)
        → slice_get (thread_code message_passing_in_x86.threads q) k ≡ Some h
        → is_load (x86_operation h) ≡ true
        → ⊥
    no_store_and_load_in_thread zero j i found_at store k h at_k load = no_load_in_first_thread k h at_k load
    no_store_and_load_in_thread (suc t) j i found_at store k h at_k load = no_store_in_second_thread t j i found_at store
