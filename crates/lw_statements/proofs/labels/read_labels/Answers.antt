-- `read_labels` promises the labels at the start of a cell, or that they are refused. Each round takes a name
-- and its `:` (`LabelsRead-push`). A token before a `:` that is no name, or that is a label already, refuses the
-- cell: every reading of it takes this token as a label (`Labels-with_next_inv`, `no_labels-if_duplicate`). The loop ends before a token that no `:`
-- follows: no label is left (`stops`).
use Rattle.lw_statements.proofs.Common.{ℕ, ◌+◌, ◌-◌, ◌<◌, ◌≤◌, sym, ap, ◌∙◌, arith, true≢false, is_some}
use Rattle.lw_statements.proofs.Common.{btree_map_updates_str, refl, slice_get_read, subst}
use Rattle.lw_statements.proofs.Causes.{FaultClaim-wrong, FaultClaim-Memory, FaultClaim-Twice, Refused-Memory}
use Rattle.lw_statements.proofs.Exits.{MatchResult-out_of_memory}
use Rattle.lw_statements.proofs.FrontLabels.{slice_get-drop_tokens, next_within, LabelsRead-none}
use Rattle.lw_statements.proofs.FrontLabels.{LabelsRead-push, Labels-with_next_inv, IsAtLabel-of_token}
use Rattle.lw_statements.proofs.FrontLabels.{no_labels-if_duplicate, HasDuplicateLabelAt-of_token}
use Rattle.lw_statements.proofs.labels.read_labels.Goals as goal

-- Two tokens further, fewer remain.
minus_two-lt : (next len : ℕ) → next + 2 ≤ len → len - (next + 2) < len - next
minus_two-lt next len within = omega arith

pub loop-token-smaller : goal.loop-token-smaller
loop-token-smaller g c =
    minus_two-lt _ _ (next_within c.args.tokens.now c.loop-token.next _ (c.is_token_at.ensures.0 c.loop-token-test.true))

pub loop-token-init : goal.loop-token-init
loop-token-init g c = LabelsRead-none _ _ _

pub bounds-tokens-next : goal.bounds-tokens-next
bounds-tokens-next g c =
    let within = next_within c.args.tokens.now c.loop-token.next _ (c.is_token_at.ensures.0 c.loop-token-test.true) in omega arith

pub loop-token-preserved : goal.loop-token-preserved
loop-token-preserved g c =
    let colon = c.is_token_at.ensures.0 c.loop-token-test.true in
    let within = next_within c.args.tokens.now c.loop-token.next _ colon in
    LabelsRead-push _ _ _ _ _ c.loop-token.invariant _
    (slice_get_read c.args.tokens.now _ c.loop-token.next _ refl (omega arith) c.index-tokens-next.is) colon _
    (c.is_unreserved_name.ensures.0 c.if-not-is_unreserved_name.false)
    (ap is_some (sym c.in_ok-insert.ensures.old) ∙ sym c.is_some.ensures ∙ c.if-is_some.false)
    (btree_map_updates_str _ c.loop-token.labels c.insert.new.self _ c.in_ok-insert.ensures.updates)

-- A token before a `:` that is no name can be no label, so no labels of the cell fit.
pub returns-then-not-is_unreserved_name : goal.returns-then-not-is_unreserved_name
returns-then-not-is_unreserved_name g c =
    let colon = c.is_token_at.ensures.0 c.loop-token-test.true in
    let within = next_within c.args.tokens.now c.loop-token.next _ colon in
    let token = slice_get_read c.args.tokens.now _ c.loop-token.next _ refl (omega arith) c.index-tokens-next.is in
    record {
      none = λ known ks fit.
          true≢false (sym (c.is_unreserved_name.ensures.1 (Labels-with_next_inv _ _ _ _ _ c.loop-token.invariant _ token colon ks
          _ fit.says fit.stops).2)
          ∙ c.if-not-is_unreserved_name.true);
      cause = rw c.misfit.ensures.place (FaultClaim-wrong _ c.misfit.result.cause c.misfit.ensures.cause (
        IsAtLabel-of_token _ _ _ _ _ c.loop-token.invariant _ token colon,
        (λ loc. true≢false (sym (c.is_unreserved_name.ensures.1 loc) ∙ c.if-not-is_unreserved_name.true)),
        c.misfit.ensures.cause,
      ));
      place = λ len lies.
          rw c.misfit.ensures.place
          (subst (λ t. t.at ≤ len) (sym c.index-tokens-next.is) (lies c.loop-token.next _ (omega arith)));
    }

-- A label that the thread has already is a duplicate, so no labels of the cell fit.
pub returns-then-is_some : goal.returns-then-is_some
returns-then-is_some g c =
    let colon = c.is_token_at.ensures.0 c.loop-token-test.true in
    let within = next_within c.args.tokens.now c.loop-token.next _ colon in
    let token = slice_get_read c.args.tokens.now _ c.loop-token.next _ refl (omega arith) c.index-tokens-next.is in
    let led = ap is_some (sym c.in_ok-insert.ensures.old) ∙ sym c.is_some.ensures ∙ c.if-is_some.true in
    record {
      none = λ known. no_labels-if_duplicate _ _ _ _ _ c.loop-token.invariant _ token colon led;
      cause = FaultClaim-Twice (HasDuplicateLabelAt-of_token _ _ _ _ _ c.loop-token.invariant _ token colon led);
      place = λ len lies. subst (λ t. t.at ≤ len) (sym c.index-tokens-next.is) (lies c.loop-token.next _ (omega arith));
    }

pub returns-in_err-insert : goal.returns-in_err-insert
returns-in_err-insert g c =
    MatchResult-out_of_memory _ _ _ c.from_residual.ensures.1 (λ f. Refused-Memory f (λ at. FaultClaim-Memory))

pub returns : goal.returns
returns g c = record {
  read = c.loop-token.invariant;
  stops = λ at.
      true≢false (sym (c.is_token_at.ensures.1 (sym (slice_get-drop_tokens c.args.tokens.now c.loop-token.next 1) ∙ at))
      ∙ c.loop-token-test.false);
}
