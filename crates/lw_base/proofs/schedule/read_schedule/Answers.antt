-- Proves `read_schedule`: it returns the events of the text, or fails at the first piece that is no event.
-- `event_texts-push` adds the piece that was read to those before. At a faulty piece the pieces before it are the
-- texts of the events read, so the fault is the first one, and the text is no schedule at all
-- (`not-IsSchedule-if_no_event_text`).
use Rattle.lw_base.proofs.Common.{◌≤◌, ◌++◌, ◌∙◌, ap, sym, map, length, arith, is_blank, first_byte_is}
use Rattle.lw_base.proofs.Common.{event_texts, event_text, Memory}
use Rattle.lw_base.proofs.Shapes.{not-event_text-if_faulty}
use Rattle.lw_base.proofs.api.Returns.{Err-clause_converted, Err-clause_memory}
use Rattle.lw_base.proofs.EventTexts.{not-IsSchedule-if_no_event_text, event_texts-first}
use Rattle.lw_base.proofs.EventTexts.{event_texts-after_blanks, text_eq-append_piece, IsEvent-push}
use Rattle.lw_base.proofs.EventTexts.{event_texts-push, length_le-suffix, drop-back, event_texts-all_read}
use Rattle.lw_base.proofs.EventTexts.{positive-if_not_zero, length_lt-after_piece}
use Rattle.lw_base.proofs.schedule.read_schedule.Goals as goal

-- After the blanks at the start no event was read, and the rest has the pieces of the whole text.
pub loop-rest-init : goal.loop-rest-init
loop-rest-init g c =
    let back = sym c.as_bytes.ensures.value ∙ c.prefix_of_kind.ensures.parts in
    record {
      events = rw c.new-events.ensures tt;
      event_texts = rw c.new-events.ensures (event_texts-after_blanks _ _ _ back c.prefix_of_kind.ensures.bytes_pass);
      others = c.prefix_of_kind.ensures.longest;
      shorter = length_le-suffix _ _ _ back;
      back = (c.prefix_of_kind.result.0.now, back);
    }

-- One more event was read, and the rest begins after its piece and the following blanks.
pub loop-rest-preserved : goal.loop-rest-preserved
loop-rest-preserved g c =
    let back =
    text_eq-append_piece _ _ _ _ c.loop-rest.invariant.back.1 c.prefix_of_kind-in-loop-rest.ensures.parts
    c.prefix_of_kind-in-loop-rest-2.ensures.parts in
    record {
      events =
          IsEvent-push c.args.names.now c.loop-rest.events c.push.new.self c.in-Ok.event c.in_ok-push-in-Ok.ensures.ok
          c.loop-rest.invariant.events c.in-Ok.ensures.ok.0;
      event_texts =
          event_texts-push c.args.names.now c.args.text.now c.prefix_of_kind-in-loop-rest-2.result.1.now c.loop-rest.events
          c.push.new.self c.in-Ok.event (record {
            rest = c.loop-rest.rest.now;
            piece = c.prefix_of_kind-in-loop-rest.result.0.now;
            after = c.prefix_of_kind-in-loop-rest.result.1.now;
            before = c.loop-rest.invariant.event_texts;
            first = event_texts-first _ _ _ (record {
              parts = c.prefix_of_kind-in-loop-rest.ensures.parts;
              not_empty = positive-if_not_zero (length c.loop-rest.rest.now) c.loop-rest-test.ensures;
              front = c.loop-rest.invariant.others;
              others = c.prefix_of_kind-in-loop-rest.ensures.bytes_pass;
              ends = c.prefix_of_kind-in-loop-rest.ensures.longest;
            });
            after_blanks =
                event_texts-after_blanks _ _ _ c.prefix_of_kind-in-loop-rest-2.ensures.parts
                c.prefix_of_kind-in-loop-rest-2.ensures.bytes_pass;
            says = c.in-Ok.ensures.ok.1;
          }) c.in_ok-push-in-Ok.ensures.ok;
      others = c.prefix_of_kind-in-loop-rest-2.ensures.longest;
      shorter = length_le-suffix _ _ _ back;
      back = (
        c.loop-rest.invariant.back.0 ++ c.prefix_of_kind-in-loop-rest.result.0.now
            ++ c.prefix_of_kind-in-loop-rest-2.result.0.now,
        back,
      );
    }

-- A piece that is no event's text makes the text no schedule.
pub returns-in-Err-clause-fault : goal.returns-in-Err-clause-fault
returns-in-Err-clause-fault g c known =
    let first = event_texts-first _ _ _ (record {
      parts = c.prefix_of_kind-in-loop-rest.ensures.parts;
      not_empty = positive-if_not_zero (length c.loop-rest.rest.now) c.loop-rest-test.ensures;
      front = c.loop-rest.invariant.others;
      others = c.prefix_of_kind-in-loop-rest.ensures.bytes_pass;
      ends = c.prefix_of_kind-in-loop-rest.ensures.longest;
    }) in
    let whole = c.loop-rest.invariant.event_texts ∙ ap (λ ws. map (event_text c.args.names.now) c.loop-rest.events ++ ws) first in
    not-IsSchedule-if_no_event_text c.args.names.now c.args.text.now c.loop-rest.events _ _ whole
    (not-event_text-if_faulty _ c.len-len.ensures.table _ _ c.in-Err.ensures.err)

-- The pieces before the faulty one are the texts of the events that were read, so it is the first.
pub returns-in-Err-clause-first : goal.returns-in-Err-clause-first
returns-in-Err-clause-first g c known =
    let first = event_texts-first _ _ _ (record {
      parts = c.prefix_of_kind-in-loop-rest.ensures.parts;
      not_empty = positive-if_not_zero (length c.loop-rest.rest.now) c.loop-rest-test.ensures;
      front = c.loop-rest.invariant.others;
      others = c.prefix_of_kind-in-loop-rest.ensures.bytes_pass;
      ends = c.prefix_of_kind-in-loop-rest.ensures.longest;
    }) in
    let back = drop-back c.args.text.now _ c.loop-rest.rest.now c.loop-rest.invariant.back.1 in
    record {
      before = c.loop-rest.events;
      piece = c.prefix_of_kind-in-loop-rest.result.0.now;
      further = event_texts c.prefix_of_kind-in-loop-rest.result.1.now;
      events = c.loop-rest.invariant.events;
      place = ap event_texts back ∙ first;
      front = ap (first_byte_is is_blank) back ∙ c.loop-rest.invariant.others;
      whole = c.loop-rest.invariant.event_texts ∙ ap (λ ws. map (event_text c.args.names.now) c.loop-rest.events ++ ws) first;
      fault = c.in-Err.ensures.err;
    }

pub returns-in_err-push-in-Ok-clause-fault : goal.returns-in_err-push-in-Ok-clause-fault
returns-in_err-push-in-Ok-clause-fault g c = Err-clause_memory _ Memory _ _ _ c.from_residual.ensures.1

pub returns-in_err-push-in-Ok-clause-first : goal.returns-in_err-push-in-Ok-clause-first
returns-in_err-push-in-Ok-clause-first g c = Err-clause_memory _ Memory _ _ _ c.from_residual.ensures.1

pub returns-in_err-push-in-Ok-clause-place : goal.returns-in_err-push-in-Ok-clause-place
returns-in_err-push-in-Ok-clause-place g c =
    Err-clause_converted (λ f. f.at ≤ length c.args.text.now) _ c.from_residual.ensures.1 (λ y q. omega (arith, q.0))

pub returns-in-Err-clause-place : goal.returns-in-Err-clause-place
returns-in-Err-clause-place g c = omega arith

pub loop-rest-smaller : goal.loop-rest-smaller
loop-rest-smaller g c =
    length_lt-after_piece _ _ _ _ _ (record {
      parts = c.prefix_of_kind-in-loop-rest.ensures.parts;
      not_empty = positive-if_not_zero _ c.loop-rest-test.ensures;
      front = c.loop-rest.invariant.others;
      others = c.prefix_of_kind-in-loop-rest.ensures.bytes_pass;
      ends = c.prefix_of_kind-in-loop-rest.ensures.longest;
    }) c.prefix_of_kind-in-loop-rest-2.ensures.parts

pub returns-clause-found : goal.returns-clause-found
returns-clause-found g c = (
  c.loop-rest.invariant.events,
  event_texts-all_read c.args.names.now c.args.text.now _ _ c.loop-rest.invariant.event_texts c.loop-rest-test.ensures,
)
