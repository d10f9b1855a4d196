-- Proves `split_at_colon`, which splits a text at its first `:`. The prefix has no `:` and is the longest such
-- one, so either nothing follows it (`DoesNotContain-if_no_rest`), or the first `:` does (`IsSplitAtFirst-longest_prefix`).
use Rattle.lw_base.proofs.api.Returns.{None-clause_known}
use Rattle.lw_base.proofs.Shapes.{IsSplitAtFirst-longest_prefix, DoesNotContain-if_no_rest}
use Rattle.lw_base.proofs.schedule.split_at_colon.Goals as goal

pub returns-in_err-name : goal.returns-in_err-name
returns-in_err-name c =
    None-clause_known _ _ c.from_residual.ensures
    (DoesNotContain-if_no_rest 58 c.prefix_of_kind.result.0.now c.prefix_of_kind.result.1.now c.prefix_of_kind.ensures.parts
    c.prefix_of_kind.ensures.bytes_pass c.in_err-name.ensures.cases)

pub returns : goal.returns
returns c =
    IsSplitAtFirst-longest_prefix 58 c.prefix_of_kind.result.0.now c.prefix_of_kind.ensures.parts
    c.prefix_of_kind.ensures.bytes_pass c.prefix_of_kind.ensures.longest c.in_ok-name.ensures.cases.0
