-- `after_key_line` promises the rest after a line `Key=value`, or that there is none, and where it fails. It
-- fails without a key (`no_key_line-if_key_is_empty`) or without a `=` after it (`no_key_line-if_no_equals`); otherwise the line goes to
-- its end (`KeyLine-of_parts`).
use Rattle.lw_text.proofs.Common.{◌≡◌, ◌++◌, ◌∙◌, refl, sym, first_byte_is, is_key_byte, ℕ, ap, length}
use Rattle.lw_text.proofs.Common.{length-append, arith, nat_tests, no_equals_sign}
use Rattle.lw_text.proofs.NoteRows.{no_key_line-if_key_is_empty, no_key_line-if_no_equals, KeyLine-of_parts}
use Rattle.lw_text.proofs.Preambles.{append-empty_front}
use Rattle.lw_text.specs.TextFailures.{no_key as no_key_byte}
use Rattle.lw_text.proofs.notes.after_key_line.Goals as goal

pub returns-then-is_empty : goal.returns-then-is_empty
returns-then-is_empty c =
    let k = c.prefix_of_kind.ensures in
    let none : length c.prefix_of_kind.result.0.now ≡ 0 = grind (arith, nat_tests) in (
      no_key_line-if_key_is_empty c.args.bytes.now c.prefix_of_kind.result.0.now _ k.parts k.longest none,
      omega arith,
      no_key_byte (ap (first_byte_is is_key_byte) (append-empty_front _ _ _ k.parts none) ∙ k.longest) refl,
    )

pub returns-in-Some : goal.returns-in-Some
returns-in-Some c =
    let k = c.prefix_of_kind.ensures in
    let s = c.prefix_of_kind-2.ensures in
    let u = c.prefix_of_kind-in-Some.ensures in
    KeyLine-of_parts c.args.bytes.now _ _ _ _ k.parts k.bytes_pass k.longest s.parts s.bytes_pass s.longest _ _ _
    (grind (arith, nat_tests)) c.in-Some.ensures u.parts u.bytes_pass u.longest

-- If no `=` follows the key and its spaces, there is no line `Key=value`, and it fails there.
pub returns-in-None : goal.returns-in-None
returns-in-None c =
    let k = c.prefix_of_kind.ensures in
    let s = c.prefix_of_kind-2.ensures in (
      no_key_line-if_no_equals c.args.bytes.now _ _ _ _ k.parts k.bytes_pass k.longest s.parts s.bytes_pass s.longest
          c.in-None.ensures,
      omega (arith, ap length k.parts, ap length s.parts, length-append {A = ℕ}),
      no_equals_sign c.prefix_of_kind.result.0.now c.prefix_of_kind-2.result.0.now
          (k.parts ∙ ap (λ x. c.prefix_of_kind.result.0.now ++ x) s.parts) (grind (arith, nat_tests)) k.bytes_pass s.bytes_pass
          (ap (first_byte_is is_key_byte) (sym s.parts) ∙ k.longest) s.longest c.in-None.ensures,
    )
