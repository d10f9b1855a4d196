-- A test with a triangular race has a data race: the load and the write at the end of the triangle. So the
-- law of data races follows from that of triangular races.
use Rattle.lw_axiomatic.proofs.Common.{ℕ, List, [], ◌∷◌, ◌++◌, subst, or_left, X86Test, x86_language}
use Rattle.lw_axiomatic.proofs.Common.{x86_operation, is_load, is_store, Interleaved, InterleavedRunsTo}
use Rattle.lw_axiomatic.proofs.Common.{IsNext, RunsToWithoutBarrier, HasTriangularRace, HasDataRace, is_plain}

module _ (test : X86Test) where
  -- A run in which thread q does nothing that waits for an empty store buffer is a run.
  InterleavedRunsTo-without_barrier : (q : ℕ) (order : List ℕ) (s end : Interleaved)
      → RunsToWithoutBarrier test q order s end
      → InterleavedRunsTo x86_language test.threads order s end
  InterleavedRunsTo-without_barrier q [] s end same = same
  InterleavedRunsTo-without_barrier q (t ∷ order) s end run =
      (run.0, run.1, InterleavedRunsTo-without_barrier q order run.0 end run.3)

  -- Two runs in sequence are a run.
  InterleavedRunsTo-append : (order more : List ℕ) (s mid end : Interleaved)
      → InterleavedRunsTo x86_language test.threads order s mid
      → InterleavedRunsTo x86_language test.threads more mid end
      → InterleavedRunsTo x86_language test.threads (order ++ more) s end
  InterleavedRunsTo-append [] more s mid end same run =
      subst (λ z. InterleavedRunsTo x86_language test.threads more z end) same run
  InterleavedRunsTo-append (t ∷ order) more s mid end first run =
      (first.0, first.1, InterleavedRunsTo-append order more first.0 mid end first.2 run)

  -- If the next instruction of a thread is a load of l, it is a plain access of l.
  IsNext-plain : (l t : ℕ) (s : Interleaved) → IsNext test is_load l t s → IsNext test is_plain l t s
  IsNext-plain l t s load = record {
    thread = load.thread;
    instruction = load.instruction;
    thread_at = load.thread_at;
    instruction_at = load.instruction_at;
    has_kind = or_left (is_load (x86_operation load.instruction)) (is_store (x86_operation load.instruction)) load.has_kind;
    location_is = load.location_is;
  }

  -- The load and the write at the end of a triangular race are a data race.
  pub HasDataRace-HasTriangularRace : HasTriangularRace test → HasDataRace test
  HasDataRace-HasTriangularRace race = record {
    q = race.q;
    p = race.p;
    threads_differ = race.threads_differ;
    order_before = race.order_before ++ race.q ∷ race.order_since;
    state_now = race.state_now;
    run_before =
        InterleavedRunsTo-append race.order_before (race.q ∷ race.order_since) _ race.state_before race.state_now race.run_before (
          race.state_after_store,
          race.store,
          InterleavedRunsTo-without_barrier race.q race.order_since race.state_after_store race.state_now race.run_since,
        );
    l = race.l;
    access_is_next = IsNext-plain race.l race.q race.state_now race.load_is_next;
    write_is_next = race.write_is_next;
  }
