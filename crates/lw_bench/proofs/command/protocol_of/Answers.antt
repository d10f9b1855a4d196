-- `protocol_of` returns the protocol that the arguments after a schedule name, or `None` if they are no
-- option. With two arguments the answer is that of `Protocol::from_name`; one argument or more than two, or
-- another first word, name no protocol.
use Rattle.lw_bench.proofs.Common.{sym, ◌∙◌, arith}
use Rattle.lw_bench.proofs.Commands.{IsResultOf-IsProtocolOption, not-IsProtocolOption-if_other_count}
use Rattle.lw_bench.proofs.Commands.{not-IsProtocolOption-if_other_word}
use Rattle.lw_bench.proofs.command.protocol_of.Goals as goal

pub returns : goal.returns
returns c =
    IsResultOf-IsProtocolOption _ c.in-len2.len_at_least c.in-len2.len_below _ c.ne.ensures _ c.if-ne.false c.from_name.ensures

pub returns-in_default : goal.returns-in_default
returns-in_default c = λ p.
    not-IsProtocolOption-if_other_count c.args.option.now p (λ two. omega (arith, two, c.in_default.len_below))
    (sym c.is_empty.ensures ∙ c.if-is_empty.false)

pub returns-in_default-2 : goal.returns-in_default-2
returns-in_default-2 c = λ p.
    not-IsProtocolOption-if_other_count c.args.option.now p (λ two. omega (arith, two, c.in_default.len_at_least))
    (sym c.is_empty.ensures ∙ c.if-is_empty.false)

pub returns-then-ne : goal.returns-then-ne
returns-then-ne c = λ p.
    not-IsProtocolOption-if_other_word c.args.option.now c.in-len2.len_at_least c.in-len2.len_below c.ne.result c.ne.ensures p
    c.if-ne.true
