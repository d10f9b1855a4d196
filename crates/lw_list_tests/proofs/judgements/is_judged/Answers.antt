-- `is_judged` promises nothing but to be safe. The premise of `are_judged` is that the condition names only
-- locations of the head, which follows from the contract's own premise.
use Rattle.std.proofs.Common.{length}
use Rattle.lw_base.proofs.api.Formulas.{MentionsLocationsBelow-if_mentions_only}
use Rattle.lw_base.specs.Heads.{TestHead, head_of}
use Rattle.lw_list_tests.proofs.judgements.is_judged.Goals as goal

pub are_judged-requires-clause-locations : goal.are_judged-requires-clause-locations
are_judged-requires-clause-locations c =
    let head : TestHead = head_of c.args.head.now in
    MentionsLocationsBelow-if_mentions_only head.threads (length head.locs) head.proposition c.requires.condition
