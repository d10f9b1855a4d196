-- The verdict on a test's condition, from the numbers of states in which its proposition is true and false.
use Rattle.std.specs.Prelude.{◌≡◌, ◌↔◌, ℕ, true, false, not, ◌==◌, if◌then◌else◌, List, length, filter}
use Rattle.lw_base.specs.declared.head.Quant.{Quant}
use Rattle.lw_base.specs.declared.head.Quant.TheVariants.{Exists, NotExists, Forall}
use Rattle.lw_base.specs.Heads.{TestHead}
use Rattle.lw_base.specs.Outcomes.{FinalState}
use Rattle.lw_report.specs.States.{ProjectedState}
use Rattle.lw_report.specs.Truth.{is_true}
use Rattle.lw_report.specs.declared.judgement.Claim.{Claim}
use Rattle.lw_report.specs.declared.judgement.Claim.TheVariants.{Exact, Listed}
use Rattle.lw_report.specs.declared.judgement.Verdict.{Verdict}
use Rattle.lw_report.specs.declared.judgement.Verdict.TheVariants as verdict
use Rattle.lw_report.specs.declared.judgement.Observation.{Observation}
use Rattle.lw_report.specs.declared.judgement.Observation.TheVariants as seen

-- The number of states in which the proposition is true.
abbrev pub positive : List ProjectedState → ℕ
positive states = length (filter (λ (s : ProjectedState). s.holds) states)

-- The number of states in which the proposition is false.
abbrev pub negative : List ProjectedState → ℕ
negative states = length (filter (λ (s : ProjectedState). not s.holds) states)

-- Whether the condition holds, from p states that satisfy the proposition and q that do not. If the states are all, one that satisfies it
-- makes `exists` true and `~exists` false, and one that does not makes `forall` false. If there may be others, only such a state decides.
abbrev pub verdict_of : Claim → Quant → ℕ → ℕ → Verdict
verdict_of Exact Exists p q = if p == 0 then verdict.No else verdict.Ok
verdict_of Exact NotExists p q = if p == 0 then verdict.Ok else verdict.No
verdict_of Exact Forall p q = if q == 0 then verdict.Ok else verdict.No
verdict_of Listed Exists p q = if p == 0 then verdict.Unknown else verdict.Ok
verdict_of Listed NotExists p q = if p == 0 then verdict.Unknown else verdict.No
verdict_of Listed Forall p q = if q == 0 then verdict.Unknown else verdict.No

-- In how many states the proposition is true, from p in which it is and q in which it is not. If there may be other states, only one of
-- each kind decides.
abbrev pub observation_of : Claim → ℕ → ℕ → Observation
observation_of Exact p q = if p == 0 then seen.Never else if q == 0 then seen.Always else seen.Sometimes
observation_of Listed p q = if p == 0 then seen.Unknown else if q == 0 then seen.Unknown else seen.Sometimes

-- What `Ok` means for all outcomes of a set, with p states in which the proposition is true and q in which it is false.
pub record OkMeans (head : TestHead) (Has : FinalState → Type 0) (p q : ℕ) : Type 0 where
  pub exists_some : verdict_of Exact Exists p q ≡ verdict.Ok ↔ ((o : FinalState) × Has o × (is_true head.proposition o ≡ true))
  pub exists_none : verdict_of Exact NotExists p q ≡ verdict.Ok ↔ ((o : FinalState) → Has o → is_true head.proposition o ≡ false)
  pub forall_all : verdict_of Exact Forall p q ≡ verdict.Ok ↔ ((o : FinalState) → Has o → is_true head.proposition o ≡ true)
