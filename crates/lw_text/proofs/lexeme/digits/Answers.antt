-- `digits` promises the value of the digits, or that it is no word. Each round takes one digit
-- (`DigitsContinueAt-next`). The interesting case is the early `None`: further digits only increase the value, so it
-- stays too large (`not-Digits-if_too_large`).
use Rattle.lw_text.proofs.Common.{◌≡◌, ◌<◌, arith, ap, digit_value}
use Rattle.lw_text.proofs.Numbers.{not-Digits-if_too_large, DigitsContinueAt-next, next_value}
use Rattle.lw_text.proofs.lexeme.digits.Goals as goal

pub returns-then-n-from-clause-none : goal.returns-then-n-from-clause-none
returns-then-n-from-clause-none c =
    let digit : c.from-in-Some-2.result ≡ digit_value c.in-Some.first =
    omega (arith, c.from-in-Some-2.ensures, c.in_ok-digit.ensures.value, ap digit_value c.from.ensures) in
    let next = next_value c.args.base c.loop-first.n c.in-Some.first _ _ c.from-in-Some.ensures digit in
    not-Digits-if_too_large c.loop-first.invariant.reads c.in-Some.ensures (omega arith)
    (omega (arith, next, c.if-n-from.true, c.from-in-Some-3.ensures))

-- A digit after which the number is still a word extends the number.
pub loop-first-preserved : goal.loop-first-preserved
loop-first-preserved c =
    let digit : c.from-in-Some-2.result ≡ digit_value c.in-Some.first =
    omega (arith, c.from-in-Some-2.ensures, c.in_ok-digit.ensures.value, ap digit_value c.from.ensures) in
    let small : digit_value c.in-Some.first < c.args.base =
    omega (arith, c.in_ok-digit.ensures.value, ap digit_value c.from.ensures) in
    record {
      reads =
          DigitsContinueAt-next c.loop-first.invariant.reads c.in-Some.ensures _
          (next_value c.args.base c.loop-first.n c.in-Some.first c.from-in-Some.result _ c.from-in-Some.ensures digit) small;
      low = omega (arith, c.if-n-from.false, c.from-in-Some-3.ensures);
    }
