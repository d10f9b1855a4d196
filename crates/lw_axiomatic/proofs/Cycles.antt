-- An axiom by ranks is the same axiom by cycles, for coherence, global happens-before and sequential
-- consistency: the ranks of a relation without cycles come from Numberings. One of the laws that relate the
-- definitions to herd's.
use Rattle.lw_axiomatic.proofs.Common.{◌↔◌, inl, inr, Language, Test, X86Test, x86_language, Coherence}
use Rattle.lw_axiomatic.proofs.Common.{GlobalHappensBefore, OnOneLocation, HappensBefore, HasNoCycle}
use Rattle.lw_axiomatic.proofs.Common.{Execution, IsSequentiallyConsistent, ScOrder}
use Rattle.lw_axiomatic.proofs.Decisions.{decided_or, decided_po, decided_rf, decided_co, decided_fr}
use Rattle.lw_axiomatic.proofs.Decisions.{decided_po_loc, decided_ppo, decided_rfe}
use Rattle.lw_axiomatic.proofs.Numberings.{HasNoCycle-Acyclic, Acyclic-HasNoCycle}

-- Coherence by ranks holds if and only if the relations on one location have no cycle.
pub Coherence-iff_no_cycle : (test : X86Test) (x : Execution) → Coherence test x ↔ HasNoCycle (OnOneLocation test x)
Coherence-iff_no_cycle test x = (
  HasNoCycle-Acyclic (OnOneLocation test x),
  Acyclic-HasNoCycle x (OnOneLocation test x) (λ a b.
      decided_or (decided_po_loc x86_language test x a b)
      (decided_or (decided_rf x86_language test x a b)
      (decided_or (decided_co x86_language test x a b) (decided_fr x86_language test x a b)))) (λ a b. elim [
        | inl poloc ↦ (poloc.po.first_event, poloc.po.second_event)
        | inr (inl rf) ↦ (rf.write.is_event, rf.read.is_event)
        | inr (inr (inl co)) ↦ (co.first_write.is_event, co.second_write.is_event)
        | inr (inr (inr fr)) ↦ (fr.read.is_event, fr.write.is_event)
      ]),
)

-- Global happens-before by ranks holds if and only if its relations have no cycle.
pub GlobalHappensBefore-iff_no_cycle : (test : X86Test) (x : Execution)
    → GlobalHappensBefore test x ↔ HasNoCycle (HappensBefore test x)
GlobalHappensBefore-iff_no_cycle test x = (
  HasNoCycle-Acyclic (HappensBefore test x),
  Acyclic-HasNoCycle x (HappensBefore test x) (λ a b.
      decided_or (decided_ppo x86_language test x a b)
      (decided_or (decided_rfe x86_language test x a b)
      (decided_or (decided_co x86_language test x a b) (decided_fr x86_language test x a b)))) (λ a b. elim [
        | inl ppo ↦ (ppo.po.first_event, ppo.po.second_event)
        | inr (inl rfe) ↦ (rfe.rf.write.is_event, rfe.rf.read.is_event)
        | inr (inr (inl co)) ↦ (co.first_write.is_event, co.second_write.is_event)
        | inr (inr (inr fr)) ↦ (fr.read.is_event, fr.write.is_event)
      ]),
)

-- Sequential consistency by ranks holds if and only if its relations have no cycle.
pub IsSequentiallyConsistent-iff_no_cycle : {S : Type 0} (language : Language S) (test : Test S) (x : Execution)
    → IsSequentiallyConsistent language test x ↔ HasNoCycle (ScOrder language test x)
IsSequentiallyConsistent-iff_no_cycle language test x = (
  HasNoCycle-Acyclic (ScOrder language test x),
  Acyclic-HasNoCycle x (ScOrder language test x) (λ a b.
      decided_or (decided_po x a b)
      (decided_or (decided_rf language test x a b)
      (decided_or (decided_co language test x a b) (decided_fr language test x a b)))) (λ a b. elim [
        | inl po ↦ (po.first_event, po.second_event)
        | inr (inl rf) ↦ (rf.write.is_event, rf.read.is_event)
        | inr (inr (inl co)) ↦ (co.first_write.is_event, co.second_write.is_event)
        | inr (inr (inr fr)) ↦ (fr.read.is_event, fr.write.is_event)
      ]),
)
