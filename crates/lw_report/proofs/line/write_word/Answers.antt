-- Proves `write_word`, which appends a word in decimal and a semicolon. The case of a number below 10: its
-- decimal is one character (`decimal_digit`). The search proves the other case, which formats the word.
use Rattle.lw_report.proofs.Common.{◌++◌, ◌∙◌, ap, sym, codes, refl, arith, string_bytes, decimal_digit}
use Rattle.lw_report.proofs.Common.{Bytes, written-two_parts, OnOk-push_str}
use Rattle.lw_report.proofs.line.write_word.Goals as goal

-- The word is a single digit, followed by the character that ends it.
pub returns-then-word-lt10 : goal.returns-then-word-lt10
unfolding lib.Utf8.encode
returns-then-word-lt10 g c =
    let out = string_bytes c.args.out.now in
    let digit = string_bytes c.push.new.self in
    let end = string_bytes c.push-then-word-lt10.new.self in
    let is_digit =
    c.in_ok-push.ensures.ascii (omega (arith, c.if-word-lt10.true)) ∙ sym (decimal_digit c.args.word c.if-word-lt10.true) in
    written-two_parts _ out end _ (codes ";") (c.in_ok-push.ensures.bytes ∙ ap (λ (t : Bytes). out ++ t) is_digit) refl
    (OnOk-push_str _ digit end (codes ";") c.push-then-word-lt10.ensures.bytes)
