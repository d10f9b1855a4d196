-- Proves `holds`, which returns the truth of a proposition in an outcome. Each index is in range, since the
-- proposition mentions only the outcome's threads and locations; then each case is the definition's, and the
-- parts are by the recursive calls.
use Rattle.lw_report.proofs.Common.{not, length, sym, ap, ◌∙◌, arith, FinalState, formula_of, is_true}
use Rattle.lw_report.proofs.Truths.{or-left_true, or-left_false, and-left_false, and-left_true}
use Rattle.lw_report.proofs.Truths.{is_true-register_test, is_true-location_test}
use Rattle.lw_report.proofs.truth.+holds.Goals as goal

-- The indices are in range, since the proposition mentions only the outcome's threads and locations.
pub bounds-as_slice-index : goal.bounds-as_slice-index
bounds-as_slice-index g n c = omega (
  arith,
  (rw c.in-RegIs.is at c.requires.prop).0,
  c.index.ensures.value,
  ap length (c.as_slice.ensures ∙ ap (λ (p : FinalState). p.regs) c.outcome.view_is),
)

pub bounds-as_slice-index-in-RegIs : goal.bounds-as_slice-index-in-RegIs
bounds-as_slice-index-in-RegIs g n c = c.index-in-RegIs.ensures.below

pub bounds-as_slice-index-in-WordIs : goal.bounds-as_slice-index-in-WordIs
bounds-as_slice-index-in-WordIs g n c = omega (
  arith,
  (rw c.in-WordIs.is at c.requires.prop).0,
  c.index-in-WordIs.ensures.value,
  ap length (c.as_slice-in-WordIs.ensures ∙ ap (λ (p : FinalState). p.words) c.outcome.view_is),
)

pub returns-in-RegIs : goal.returns-in-RegIs
returns-in-RegIs g n c =
    let o = c.args.outcome.now in
    is_true-register_test o _ (c.as_slice.ensures ∙ ap (λ p. p.regs) c.outcome.view_is) c.index.ensures.value
    c.index-in-RegIs.ensures.value
    ∙ ap (λ p. is_true (formula_of p) o) (sym c.in-RegIs.is)

pub returns-in-WordIs : goal.returns-in-WordIs
returns-in-WordIs g n c =
    let o = c.args.outcome.now in
    is_true-location_test o _ (c.as_slice-in-WordIs.ensures ∙ ap (λ (p : FinalState). p.words) c.outcome.view_is)
    c.index-in-WordIs.ensures.value
    ∙ ap (λ p. is_true (formula_of p) o) (sym c.in-WordIs.is)

pub returns-in-Neg : goal.returns-in-Neg
returns-in-Neg g n c =
    let o = c.args.outcome.now in
    ap not (c.holds.ensures ∙ ap (λ p. is_true (formula_of p) o) c.deref.ensures)
    ∙ ap (λ p. is_true (formula_of p) o) (sym c.in-Neg.is)

-- A conjunction, whether its left part is true or false.
pub returns-then-holds : goal.returns-then-holds
returns-then-holds g n c =
    let o = c.args.outcome.now in
    let left = c.holds-in-Both.ensures ∙ ap (λ p. is_true (formula_of p) o) c.deref-in-Both.ensures in
    let right = c.holds-then-holds.ensures ∙ ap (λ p. is_true (formula_of p) o) c.deref-then-holds.ensures in
    and-left_true _ _ _ _ c.if-holds.true left right ∙ ap (λ p. is_true (formula_of p) o) (sym c.in-Both.is)

pub returns-else-holds : goal.returns-else-holds
returns-else-holds g n c =
    let o = c.args.outcome.now in
    let left = c.holds-in-Both.ensures ∙ ap (λ p. is_true (formula_of p) o) c.deref-in-Both.ensures in
    and-left_false _ _ _ c.if-holds.false left ∙ ap (λ p. is_true (formula_of p) o) (sym c.in-Both.is)

-- A disjunction, whether its left part is true or false.
pub returns-then-holds-2 : goal.returns-then-holds-2
returns-then-holds-2 g n c =
    let o = c.args.outcome.now in
    let left = c.holds-in-Either.ensures ∙ ap (λ p. is_true (formula_of p) o) c.deref-in-Either.ensures in
    or-left_true _ _ _ c.if-holds-2.true left ∙ ap (λ p. is_true (formula_of p) o) (sym c.in-Either.is)

pub returns-else-holds-2 : goal.returns-else-holds-2
returns-else-holds-2 g n c =
    let o = c.args.outcome.now in
    let left = c.holds-in-Either.ensures ∙ ap (λ p. is_true (formula_of p) o) c.deref-in-Either.ensures in
    let right = c.holds-else-holds-2.ensures ∙ ap (λ p. is_true (formula_of p) o) c.deref-else-holds-2.ensures in
    or-left_false c.holds-else-holds-2.result c.holds-in-Either.result _ _ c.if-holds-2.false left right
    ∙ ap (λ p. is_true (formula_of p) o) (sym c.in-Either.is)
