-- `read_slots` promises to be true exactly if the tokens fill the slots, and then their bindings. By
-- recursion on the slots. The tokens after the first are bound before it, except after a keyword, which binds
-- nothing (`AreTaken-cons`, `AreTaken-after_keyword`).
use Rattle.lw_statements.proofs.Common.{length, ap, sym, ◌∙◌, true≢false, arith}
use Rattle.lw_statements.proofs.SlotTokens.{keyword_equal-iff_Gives, AreTaken-after_keyword, AreTaken-cons}
use Rattle.lw_statements.proofs.SlotTokens.{AreTaken-no_slots, not-Fills-if_no_tokens}
use Rattle.lw_statements.proofs.statement_parser.+read_slots.Goals as goal

pub returns : goal.returns
returns g t c =
    let after = rw c.if-not-read_slots.false at c.read_slots-2.ensures in
    rw (c.in-Some.ensures.cases.0, c.in-Some-split_first.ensures.cases.0)
    (AreTaken-cons g.L.StatementReader.spelling _ c.in-Some.slot.now _ _ _ _ _ _ after c.add_token.ensures)

pub returns-in-Keyword : goal.returns-in-Keyword
returns-in-Keyword g t c =
    let word =
    keyword_equal-iff_Gives g.L.StatementReader.spelling c.in-Keyword.keyword _ c.is_keyword_of.result c.is_keyword_of.ensures in
    rw (c.in-Some.ensures.cases.0, c.in-Keyword.is, c.in-Some-split_first.ensures.cases.0)
    (AreTaken-after_keyword g.L.StatementReader.spelling _ c.in-Keyword.keyword _ _ _ _ _ (word.0 c.if-not-is_keyword_of.false)
    c.read_slots.ensures)

pub returns-then-not-is_keyword_of : goal.returns-then-not-is_keyword_of
returns-then-not-is_keyword_of g t c =
    let word =
    keyword_equal-iff_Gives g.L.StatementReader.spelling c.in-Keyword.keyword _ c.is_keyword_of.result c.is_keyword_of.ensures in
    rw (c.in-Some.ensures.cases.0, c.in-Keyword.is, c.in-Some-split_first.ensures.cases.0)
    (λ f s. true≢false (sym (word.1 s.0) ∙ c.if-not-is_keyword_of.true))

pub returns-in_default : goal.returns-in_default
returns-in_default g t c =
    AreTaken-no_slots g.L.StatementReader.spelling c.args.slots.now c.args.tokens.now c.args.index c.is_empty.result
    c.args.found.now c.in_default.ensures.cases c.is_empty.ensures c.requires.nothing

pub returns-in_default-split_first : goal.returns-in_default-split_first
returns-in_default-split_first g t c =
    rw c.in-Some.ensures.cases.0
    (not-Fills-if_no_tokens g.L.StatementReader.spelling _ c.in-Some.slot.now c.args.tokens.now
    c.in_default-split_first.ensures.cases)

pub returns-then-not-read_slots : goal.returns-then-not-read_slots
returns-then-not-read_slots g t c =
    let none = rw c.if-not-read_slots.true at c.read_slots-2.ensures in
    rw (c.in-Some.ensures.cases.0, c.in-Some-split_first.ensures.cases.0) (λ f s. none f.1 s.1)

pub overflow_add-index : goal.overflow_add-index
overflow_add-index g t c = omega (arith, c.requires.bounded, ap length c.in-Some.ensures.cases.0)
