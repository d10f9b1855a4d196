-- `is_none_judged` promises nothing but to be safe. The premise of `is_judged` holds since an empty list has
-- no outcome (`outcomes_of-empty`).
use Rattle.std.proofs.Common.{◌∙◌, sym, eqb-true}
use Rattle.lw_base.specs.Heads.{head_of}
use Rattle.lw_list_tests.proofs.Entries.{outcomes_of-empty}
use Rattle.lw_list_tests.proofs.judgements.is_none_judged.Goals as goal

pub is_judged-requires-clause-outcomes : goal.is_judged-requires-clause-outcomes
is_judged-requires-clause-outcomes c =
    let none = eqb-true _ 0 (sym c.is_empty.ensures ∙ c.if-is_empty.true) in
    outcomes_of-empty (head_of c.args.source.now.head) c.in-Ok.listing none
