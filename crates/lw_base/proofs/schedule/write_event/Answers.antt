-- Proves `write_event`, which appends an event's text. This is the case of an eviction: letter, digit, colon
-- and name are written in sequence, and make the text of the definition.
use Rattle.lw_base.proofs.Common.{◌≡◌, ◌++◌, ◌∷◌, [], ◌∙◌, ap, arith, refl, string_bytes, digit, event_text}
use Rattle.lw_base.proofs.Common.{byte, get_or_from_slice_get}
use Rattle.lw_base.proofs.api.Writing.{written-append, OnOk-push_str, written-two_parts}
use Rattle.lw_base.proofs.schedule.write_event.Goals as goal

-- The letter, the digit, the colon and the name that were written are the text of the eviction.
pub returns-in_ok-push-in-Evict : goal.returns-in_ok-push-in-Evict
unfolding lib.Utf8.encode
returns-in_ok-push-in-Evict g c =
    let colon =
    c.in_ok-push-in-Evict.ensures.bytes
    ∙ ap (λ t. string_bytes c.write_cpu-in-Evict.new.out ++ t) (c.in_ok-push-in-Evict.ensures.ascii (omega arith)) in
    let name = c.name.result.now in
    let marks =
    written-append _ _ _ (byte "E" ∷ digit c.in-Evict.cpu ∷ []) (byte ":" ∷ []) c.in_ok-write_cpu-in-Evict.ensures colon in
    let whole : byte "E" ∷ digit c.in-Evict.cpu ∷ byte ":" ∷ name ≡ event_text c.args.names.now c.args.event.now =
    rw (c.in-Evict.is, get_or_from_slice_get _ c.in-Evict.loc _ [] c.name.ensures) refl in
    written-two_parts c.push_str.result _ _ (byte "E" ∷ digit c.in-Evict.cpu ∷ byte ":" ∷ []) name marks whole
    (OnOk-push_str c.push_str.result _ _ name c.push_str.ensures.bytes)
