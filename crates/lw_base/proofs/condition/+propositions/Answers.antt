-- Proves the three functions that print a proposition: `write_proposition`, `write_part` and
-- `write_right_operand`, which call each other. Each case is the text of the definition, part by part
-- (`written-two_parts`); a part is in parentheses if and only if the definition has them (`parenthesized_if-true`,
-- `parenthesized_if-same_part`).
use Rattle.lw_base.proofs.Common.{◌++◌, [], refl, sym, ap, codes, decimal, get_or_from_slice_get, Bytes}
use Rattle.lw_base.proofs.Common.{is_or, is_binary}
use Rattle.lw_base.proofs.api.Writing.{written-two_parts, written-equal_text, OnOk-push_str}
use Rattle.lw_base.proofs.Conditions.{parenthesized_if-true, joined_text-written, text_of}
use Rattle.lw_base.proofs.Conditions.{text_written-same_prop, parenthesized_if-same_part}
use Rattle.lw_base.proofs.condition.+propositions.Goals as goal

pub write_right_operand-returns : goal.write_right_operand-returns
write_right_operand-returns g t c =
    written-two_parts c.write_part.result _ _ _ _ c.in_ok-push_str.ensures.bytes refl c.write_part.ensures

pub write_part-returns : goal.write_part-returns
write_part-returns g t c =
    parenthesized_if-true c.push_str-2.result _ _ _ _ _ _ c.if-not-needs_parentheses.false c.in_ok-push_str.ensures.bytes
    c.in_ok-write_proposition.ensures (OnOk-push_str c.push_str-2.result _ _ (codes ")") c.push_str-2.ensures.bytes)

pub write_proposition-returns-in-RegIs : goal.write_proposition-returns-in-RegIs
write_proposition-returns-in-RegIs g t c =
    text_written-same_prop c.args.head.now.arch c.args.head.now.locs _ _ _ _ _ c.in-RegIs.is c.write_register_is.ensures

pub write_proposition-returns-in-WordIs : goal.write_proposition-returns-in-WordIs
write_proposition-returns-in-WordIs g t c =
    text_written-same_prop c.args.head.now.arch c.args.head.now.locs c.write.result _ _ c.args.prop.now _ c.in-WordIs.is
    (written-equal_text c.write.result _ _ _ _
    (ap (λ (name : Bytes). name ++ (codes "=" ++ decimal c.in-WordIs.word))
    (sym (get_or_from_slice_get _ c.in-WordIs.loc _ [] c.name.ensures))) c.write.ensures.bytes)

pub write_proposition-returns-in-Neg : goal.write_proposition-returns-in-Neg
write_proposition-returns-in-Neg g t c =
    text_written-same_prop c.args.head.now.arch c.args.head.now.locs _ _ _ c.args.prop.now _ c.in-Neg.is
    (written-equal_text _ _ _ _ _
    (ap (λ (part : Bytes). codes "~" ++ part)
    (parenthesized_if-same_part c.args.head.now.arch c.args.head.now.locs is_binary _ _ _ _ c.deref.ensures c.deref-in-Neg.ensures
    c.is_joined.ensures)) c.write_right_operand.ensures)

pub write_proposition-returns-in_ok-write_part-in-Both : goal.write_proposition-returns-in_ok-write_part-in-Both
write_proposition-returns-in_ok-write_part-in-Both g t c =
    text_written-same_prop c.args.head.now.arch c.args.head.now.locs _ _ _ c.args.prop.now _ c.in-Both.is
    (joined_text-written _ _ _ (codes " /\\ ")
    (parenthesized_if-same_part c.args.head.now.arch c.args.head.now.locs is_or _ _ _ _ c.deref-in-Both.ensures
    c.deref-in-Both-2.ensures c.is_either.ensures)
    (parenthesized_if-same_part c.args.head.now.arch c.args.head.now.locs is_binary _ _ _ _ c.deref-in-Both-3.ensures
    c.deref-in-Both-4.ensures c.is_joined-in-Both.ensures) c.in_ok-write_part-in-Both.ensures
    c.write_right_operand-in-Both.ensures)

pub write_proposition-returns-in_ok-write_proposition-in-Either : goal.write_proposition-returns-in_ok-write_proposition-in-Either
write_proposition-returns-in_ok-write_proposition-in-Either g t c =
    text_written-same_prop c.args.head.now.arch c.args.head.now.locs _ _ _ c.args.prop.now _ c.in-Either.is
    (joined_text-written c.write_right_operand-in-Either.result _ _ (codes " \\/ ")
    (ap (text_of c.args.head.now.arch c.args.head.now.locs) c.deref-in-Either.ensures)
    (parenthesized_if-same_part c.args.head.now.arch c.args.head.now.locs is_or _ _ _ _ c.deref-in-Either-2.ensures
    c.deref-in-Either-3.ensures c.is_either-in-Either.ensures) c.in_ok-write_proposition-in-Either.ensures
    c.write_right_operand-in-Either.ensures)
