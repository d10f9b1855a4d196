-- Which executions that satisfy the axioms are sequentially consistent: those with a fence between each store
-- and each later load that reads what another thread then overwrites. Each sequentially consistent execution
-- satisfies the axioms. The laws of fenced executions and tests cite this file.
use Rattle.lw_axiomatic.proofs.Common.{◌≢◌, suc, ◌≤◌, inl, inr, sym, arith, cases_eq, or_cases, FinalState}
use Rattle.lw_axiomatic.proofs.Common.{x86_language, X86Test, SatisfiesAxioms, IsAllowed, IsCandidate}
use Rattle.lw_axiomatic.proofs.Common.{MemoryEvent, Execution, reads, operation_is, Fr, HasFenceBetween}
use Rattle.lw_axiomatic.proofs.Common.{IsFenced, IsFencedWhereShared, IsFencedWhereOverwritten}
use Rattle.lw_axiomatic.proofs.Common.{IsSequentiallyConsistent, IsScOutcome}
use Rattle.lw_axiomatic.proofs.EventKinds.{write_or_load, write_stores_or_reads}
use Rattle.lw_axiomatic.proofs.Anchored.{ghb_rank, anchored, anchored_at_most_top}
use Rattle.lw_axiomatic.proofs.Anchored.{anchored_at_most_top-of_write, is_access-of_read}
use Rattle.lw_axiomatic.proofs.Anchored.{ghb_rank_increases-Po_from_read, ghb_rank_increases-Po_to_waiting}
use Rattle.lw_axiomatic.proofs.Anchored.{ghb_rank_increases-Po_from_waiting}
use Rattle.lw_axiomatic.proofs.Anchored.{IsSequentiallyConsistent-rank_increases, rank_increases-Fr_in_thread}
use Rattle.lw_axiomatic.proofs.Anchored.{rank_increases-Fr_of_low_anchor}

-- ---- every sequentially consistent execution satisfies the axioms

-- A sequentially consistent execution satisfies the axioms.
pub SatisfiesAxioms-IsSequentiallyConsistent : (test : X86Test) (x : Execution)
    → IsSequentiallyConsistent x86_language test x
    → SatisfiesAxioms test x
SatisfiesAxioms-IsSequentiallyConsistent test x acyclic = record {
  coherence = record {
    rank = acyclic.rank;
    increases = λ a b. elim [ inl poloc ↦ acyclic.increases a b (inl poloc.po) | inr rest ↦ acyclic.increases a b (inr rest) ];
  };
  happens_before = record {
    rank = acyclic.rank;
    increases = λ a b. elim [
      | inl ppo ↦ acyclic.increases a b (inl ppo.po)
      | inr (inl rfe) ↦ acyclic.increases a b (inr (inl rfe.rf))
      | inr (inr rest) ↦ acyclic.increases a b (inr (inr rest))
    ];
  };
}

-- A sequentially consistent outcome is allowed.
pub IsAllowed-IsScOutcome : (test : X86Test) (o : FinalState) → IsScOutcome x86_language test o → IsAllowed test o
IsAllowed-IsScOutcome test o s = record {
  execution = s.execution;
  candidate = s.candidate;
  axioms = SatisfiesAxioms-IsSequentiallyConsistent test s.execution s.sequential;
}

-- ---- fenced where another thread overwrites what is read

module _ {test : X86Test} {x : Execution} (axioms : SatisfiesAxioms test x) (overwritten : IsFencedWhereOverwritten test x) where
  -- The anchored number of a read that comes before another thread's write in from-reads is at most one more than the read's
  -- rank, if the execution is fenced where another thread overwrites.
  anchored_at_most_top-Fr_of_fenced : (r w : MemoryEvent)
      → Fr x86_language test x r w
      → r.thread ≢ w.thread
      → anchored axioms r ≤ suc (ghb_rank axioms r)
  anchored_at_most_top-Fr_of_fenced r w fr two = elim (write_or_load test r fr.on_location fr.read.location_is) [
    | inl r_writes ↦ anchored_at_most_top-of_write axioms r fr.read.is_event r_writes
    | inr r_loads ↦
        anchored_at_most_top axioms r fr.read.is_event (is_access-of_read axioms r fr.read.is_read)
        (λ k po a. elim (or_cases (operation_is x86_language test reads k) _ a) [
          | inl reading ↦ ghb_rank_increases-Po_from_read axioms k r po reading
          | inr writing ↦ elim (write_stores_or_reads test k writing) [
            | inr reading ↦ ghb_rank_increases-Po_from_read axioms k r po reading
            | inl store ↦
                (let f : HasFenceBetween test x k r =
                overwritten k r w (record { po = po; store = store; load = r_loads }) fr two in
                omega (
                  arith,
                  ghb_rank_increases-Po_to_waiting axioms k f.fence f.after_first f.fence_waits,
                  ghb_rank_increases-Po_from_waiting axioms f.fence r f.before_second f.fence_waits,
                ))
          ]
        ])
  ]

  -- An execution that satisfies the axioms and is fenced where another thread overwrites is sequentially consistent.
  pub IsSequentiallyConsistent-IsFencedWhereOverwritten : IsSequentiallyConsistent x86_language test x
  IsSequentiallyConsistent-IsFencedWhereOverwritten =
      IsSequentiallyConsistent-rank_increases axioms (λ r w fr. elim (cases_eq r.thread w.thread) [
        | inr threads_differ ↦
            rank_increases-Fr_of_low_anchor axioms r w fr (anchored_at_most_top-Fr_of_fenced r w fr threads_differ)
        | inl same_thread ↦ rank_increases-Fr_in_thread axioms r w fr same_thread
      ])

-- ---- so are those with fences

-- A fenced execution is fenced where another thread overwrites.
pub IsFencedWhereOverwritten-IsFenced : (test : X86Test) (x : Execution) → IsFenced test x → IsFencedWhereOverwritten test x
IsFencedWhereOverwritten-IsFenced test x fenced a b c pair fr two = fenced a b pair

-- An execution that is fenced before loads of what other threads write is fenced where another thread overwrites.
pub IsFencedWhereOverwritten-IsFencedWhereShared : (test : X86Test) (x : Execution)
    → IsFencedWhereShared test x
    → IsFencedWhereOverwritten test x
IsFencedWhereOverwritten-IsFencedWhereShared test x fenced a b c pair fr two = elim (fenced a b pair) [
  | inl between ↦ between
  | inr own ↦ absurd (two (sym (own c fr.on_location fr.read.location_is fr.write)))
]

-- If each execution with an outcome that satisfies the axioms is fenced where another thread overwrites, and the axioms allow the
-- outcome, it is sequentially consistent.
pub IsScOutcome-IsAllowed : (test : X86Test) (o : FinalState)
    → ((x : Execution) → IsCandidate x86_language test x o → SatisfiesAxioms test x → IsFencedWhereOverwritten test x)
    → IsAllowed test o
    → IsScOutcome x86_language test o
IsScOutcome-IsAllowed test o each a = record {
  execution = a.execution;
  candidate = a.candidate;
  sequential = IsSequentiallyConsistent-IsFencedWhereOverwritten a.axioms (each a.execution a.candidate a.axioms);
}
