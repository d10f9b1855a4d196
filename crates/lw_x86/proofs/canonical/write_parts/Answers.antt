-- `write_parts` promises that the canonical text is appended. It is the parts that the callees ensure, in
-- sequence, so only concatenation remains. The condition's premise is that of a well-formed head.
use Rattle.lw_x86.proofs.Common.{arith, common_steps, MentionsLocationsBelow-if_mentions_only, test_of}
use Rattle.lw_x86.proofs.canonical.write_parts.Goals as goal

pub write_condition-requires : goal.write_condition-requires
write_condition-requires g c =
    let p = test_of c.args.program.now.head c.args.program.now.threads in
    MentionsLocationsBelow-if_mentions_only p.head.threads _ p.head.proposition c.args.program.now.well_formed.head.condition

pub returns : goal.returns
returns g c = grind (arith, common_steps)
