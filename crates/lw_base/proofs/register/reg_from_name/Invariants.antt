-- At each round none of the first registers has the name.
use Rattle.lw_base.proofs.Common.{ℕ, ◌<◌, IsRegisterName}
use Rattle.lw_base.proofs.register.reg_from_name.Given as goal

abbrev pub invariant-loop-reg : goal.invariant-loop-reg
invariant-loop-reg l = (k : ℕ) → k < l.reg-index → IsRegisterName l.arch l.name k → ⊥
