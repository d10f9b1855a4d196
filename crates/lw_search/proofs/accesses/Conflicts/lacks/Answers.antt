-- Proves `Conflicts::lacks`: if the test of the access's bit finds 0, the set lacks the access (`bit_at-zero_if_tested`).
use Rattle.lw_search.proofs.Common.{◌<◌, ◌∙◌, ap, sym, subst, bit_at}
use Rattle.lw_search.proofs.AccessSets.{access_bit-lt, bit_at-zero_if_tested}
use Rattle.lw_search.proofs.accesses.Conflicts.lacks.Goals as goal

pub returns-then-loc-lt-LOCATIONS : goal.returns-then-loc-lt-LOCATIONS
returns-then-loc-lt-LOCATIONS c = λ test.
    let within =
    subst (λ k. k < 32) (sym c.bit_of.ensures) (access_bit-lt c.args.loc c.args.written c.if-loc-lt-LOCATIONS.true) in (
      c.if-loc-lt-LOCATIONS.true,
      rw (← c.self.view_is)
          (ap (bit_at c.self.inside.bits) (sym c.bit_of.ensures)
          ∙ bit_at-zero_if_tested c.self.inside.bits c.bit_of.result within test),
    )
