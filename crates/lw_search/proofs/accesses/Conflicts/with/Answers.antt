-- Proves `Conflicts::with`, which adds one access: its bit is set (`not-Lacks-added`), and no bit is cleared (`Lacks-before`).
use Rattle.lw_search.proofs.Common.{◌<◌, sym, subst}
use Rattle.lw_search.proofs.AccessSets.{Lacks-before, not-Lacks-added, access_bit-lt}
use Rattle.lw_search.proofs.accesses.Conflicts.with.Goals as goal

pub returns-clause-others : goal.returns-clause-others
returns-clause-others c x w =
    let within = subst (λ k. k < 32) (sym c.bit_of.ensures) (access_bit-lt c.args.loc c.args.written c.requires) in
    rw (← c.self.view_is) (Lacks-before c.self.inside.bits c.bit_of.result x w within)

pub returns-clause-added : goal.returns-clause-added
returns-clause-added c = λ lacks.
    let within = subst (λ k. k < 32) (sym c.bit_of.ensures) (access_bit-lt c.args.loc c.args.written c.requires) in
    not-Lacks-added c.self.inside.bits c.bit_of.result within (rw (← c.bit_of.ensures) at lacks)
