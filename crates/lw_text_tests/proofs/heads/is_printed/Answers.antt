-- `is_printed` promises nothing but to be safe. The premise of `write_condition` is that the condition names
-- only locations of the head, which is the invariant of a frame.
use Rattle.std.proofs.Common.{length}
use Rattle.lw_base.specs.Propositions.{formula_of}
use Rattle.lw_base.proofs.api.Formulas.{MentionsLocationsBelow-if_mentions_only}
use Rattle.lw_text_tests.proofs.heads.is_printed.Goals as goal

pub write_condition-requires : goal.write_condition-requires
write_condition-requires c =
    let head = c.args.frame.now.head in
    rw c.head.ensures
    (MentionsLocationsBelow-if_mentions_only head.threads (length head.locs) (formula_of head.prop)
    c.args.frame.now.well_formed.condition)
