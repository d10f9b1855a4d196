-- `kind_of_run` promises the kind of a run of name bytes, or that it is neither a name nor a number. The
-- first byte decides: a digit begins numbers only (`no_name-if_digit_first`), another byte begins names only, of at
-- most 32 bytes (`not-IsNameOrNumber-if_long`).
use Rattle.lw_text.proofs.Common.{sym, ◌∙◌, inl, inr, arith}
use Rattle.lw_text.proofs.NameRuns.{not-IsNameOrNumber-if_empty, no_name-if_digit_first, short_run_is_name}
use Rattle.lw_text.proofs.NameRuns.{not-IsNameOrNumber-if_long}
use Rattle.lw_text.proofs.lexeme.kind_of_run.Goals as goal

pub returns-in_default : goal.returns-in_default
returns-in_default c = not-IsNameOrNumber-if_empty (sym c.as_bytes.ensures.value ∙ c.in_default.ensures)

pub returns-in-Some-number : goal.returns-in-Some-number
returns-in-Some-number c = (inr (c.in-Some-number.number, c.in-Some-number.ensures), c.in-Some-number.ensures)

pub returns-in-None : goal.returns-in-None
returns-in-None c =
    no_name-if_digit_first (sym c.as_bytes.ensures.value ∙ c.in-Some.ensures) (sym c.if-is_ascii_digit.ensures.value)
    c.in-None.ensures

pub returns-then-run-le-MAX_NAME_BYTES : goal.returns-then-run-le-MAX_NAME_BYTES
returns-then-run-le-MAX_NAME_BYTES c =
    let name =
    short_run_is_name (sym c.as_bytes.ensures.value ∙ c.in-Some.ensures) c.requires (sym c.if-is_ascii_digit.ensures.value)
    (omega (arith, c.if-run-le-MAX_NAME_BYTES.true)) in
    (inl name, name)

pub returns : goal.returns
returns c =
    not-IsNameOrNumber-if_long (sym c.as_bytes.ensures.value ∙ c.in-Some.ensures) (sym c.if-is_ascii_digit.ensures.value)
    (λ short. omega (arith, short, c.if-run-le-MAX_NAME_BYTES.false))
