-- `longest_accepted_prefix` promises the greatest length of a prefix that some form accepts. Each round takes
-- the maximum with one more form (`longer_reached`); at the end no form accepts more (`All-take_all`).
use Rattle.lw_statements.proofs.Common.{◌≡◌, ◌∙◌, max, sym, inl, take, refl, arith, length-map, All-weaker}
use Rattle.lw_statements.proofs.Common.{token_texts}
use Rattle.lw_statements.proofs.Fronts.{longer_reached}
use Rattle.lw_statements.proofs.SlotTokens.{ReachesTo, All-take_suc, All-take_all, IsAcceptedLength-in_range}
use Rattle.lw_statements.proofs.api.Greater.{ord_max-is_max}
use Rattle.lw_statements.proofs.statement_parser.longest_accepted_prefix.Goals as goal

pub loop-form-init : goal.loop-form-init
loop-form-init g c = (omega arith, (λ k form less. absurd (omega (arith, less))), inl refl)

pub returns-clause-longest : goal.returns-clause-longest
returns-clause-longest g c = record {
  reached = c.loop-form.invariant.2;
  front = λ form there.
      All-take_all (ReachesTo g.L.StatementReader.spelling (token_texts c.args.tokens.now) c.loop-form.longest)
      g.L.StatementReader.spelling.forms _ (rw c.forms-form-items.ensures at c.loop-form-test.false) c.loop-form.invariant.1 form
      there;
}

-- The maximum with one more form is at least what each form so far accepts, and is reached.
pub loop-form-preserved : goal.loop-form-preserved
loop-form-preserved g c =
    let spelling = g.L.StatementReader.spelling in
    let tokens = token_texts c.args.tokens.now in
    let longest = c.loop-form.longest in
    let longer : c.max-longest.result ≡ max longest c.accepted_prefix_len.result =
    c.max-longest.ensures ∙ ord_max-is_max longest c.accepted_prefix_len.result in
    let within = (IsAcceptedLength-in_range spelling _ _ _ c.accepted_prefix_len.ensures).1 in
    let here = rw c.forms-form-items.ensures at c.loop-form-test.true in
    let item = rw c.forms-form-items.ensures at c.form-item.is in
    let reach = rw c.slots.ensures at c.accepted_prefix_len.ensures in
    let before =
    All-weaker (ReachesTo spelling tokens longest) (ReachesTo spelling tokens c.max-longest.result)
    (λ form reaches. (reaches.0, reaches.1, omega (arith, longer, reaches.2))) (take c.loop-form.form-index spelling.forms)
    c.loop-form.invariant.1 in (
      omega (arith, longer, within, c.loop-form.invariant.0, length-map c.args.tokens.now (λ t. t.text.now)),
      All-take_suc (ReachesTo spelling tokens c.max-longest.result) spelling.forms c.loop-form.form-index c.form-item.result here
          item before (c.accepted_prefix_len.result, reach, omega (arith, longer)),
      longer_reached spelling tokens longest c.accepted_prefix_len.result c.max-longest.result c.form-item.result
          (c.loop-form.form-index, here, sym item) reach c.loop-form.invariant.2 longer,
    )
