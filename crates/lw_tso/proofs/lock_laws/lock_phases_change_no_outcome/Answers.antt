-- Proves the law that the machine with locked instructions in phases has the outcomes of the machine in which
-- each is one step. `MachineRunsTo-of_phases` turns a run in phases into one of single steps, and `InPhases-run` the
-- reverse; both end in the same state.
use Rattle.lw_tso.proofs.FromPhases.{MachineRunsTo-of_phases}
use Rattle.lw_tso.proofs.IntoPhases.{InPhases-run}
use Rattle.lw_tso.proofs.lock_laws.lock_phases_change_no_outcome.Goals as goal

-- Both directions: a run in phases gives one of single steps, and a run of single steps one in phases, with the same end.
pub returns : goal.returns
returns c test o ok = (
  (λ a.
      let r = a.1 in
      let one = MachineRunsTo-of_phases test.threads _ ok.code a.0 _ r.end ok.head.words r.ran in
      (one.0, record { end = r.end; ran = one.1; final = r.final; outcome_is = r.outcome_is })),
  (λ a.
      let r = a.1 in
      let phases = InPhases-run test.threads a.0 _ r.end r.ran in
      (phases.0, record { end = r.end; ran = phases.1; final = r.final; outcome_is = r.outcome_is })),
)
