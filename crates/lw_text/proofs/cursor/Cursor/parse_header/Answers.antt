-- `parse_header` promises the number of threads that the header names, or that there is no header, and where it
-- fails. Each round reads one name and a `|` (`NamesContinueAt-next`). After four of them a fifth name is a fault of its
-- own. Each exit with a fault shows two things, in this order: that there is no such reading, and where it fails
-- (`Fails-later`).
use Rattle.lw_text.proofs.Common.{◌∷◌, ◌∙◌, ap, add-one, arith, codes, inl, inr, rules, subst, sym}
use Rattle.lw_text.proofs.Common.{thread_name, remaining_texts, [], refl, Unexpected, FailsBefore}
use Rattle.lw_text.proofs.Common.{FailsInHeader, in_next_thread, no_thread_name, no_thread_separator}
use Rattle.lw_text.proofs.Common.{too_many_threads}
use Rattle.lw_text.proofs.Faults.{Err-clause_known}
use Rattle.lw_text.proofs.Failures.{Fails-here, Fails-later, IfFirst-map, IfFirst-begins, IfFirst-begins_not}
use Rattle.lw_text.proofs.Headers.{NamesContinueAt-next, NamesContinueAt-none_yet}
use Rattle.lw_text.proofs.Lists.{IsSuffix-join}
use Rattle.lw_text.proofs.cursor.Cursor.parse_header.Goals as goal

-- A name with a `|` after it is one more name read.
pub loop-thread-preserved : goal.loop-thread-preserved
loop-thread-preserved c = record {
  names =
      NamesContinueAt-next (remaining_texts c.args.self.now) _ c.loop-thread.thread c.loop-thread.invariant.names
      (remaining_texts c.expect.new.self)
      (c.in_ok-expect.ensures.ok ∙ ap (λ x. x ∷ remaining_texts c.expect.new.self) c.thread_name.ensures)
      (remaining_texts c.expect_either.new.self) (rw c.if-branch.false at c.in_ok-expect_either.ensures.0);
  advances =
      IsSuffix-join c.loop-thread.invariant.advances
      (IsSuffix-join c.in_ok-expect.ensures.advances c.in_ok-expect_either.ensures.1);
  fails = λ rest cause w.
      c.loop-thread.invariant.fails rest cause
      (in_next_thread (omega (arith, c.loop-thread-test.true))
      (c.in_ok-expect.ensures.ok
      ∙ ap (λ x. x ∷ remaining_texts c.expect.new.self) c.thread_name.ensures
      ∙ ap (λ l. thread_name c.loop-thread.thread ∷ l) (rw c.if-branch.false at c.in_ok-expect_either.ensures.0))
      (rw add-one at w));
}

-- If `;` follows the name, the names read and this one are the header.
pub returns-then-branch : goal.returns-then-branch
returns-then-branch c = (
  (
    c.loop-thread.invariant.names.whole_if_rest 0 (remaining_texts c.expect_either.new.self)
        (c.in_ok-expect.ensures.ok
        ∙ ap (λ x. x ∷ remaining_texts c.expect.new.self) c.thread_name.ensures
        ∙ ap (λ l. thread_name c.loop-thread.thread ∷ l) (rw c.if-branch.true at c.in_ok-expect_either.ensures.0)),
    omega (arith, c.loop-thread-test.true),
  ),
  IsSuffix-join c.loop-thread.invariant.advances (IsSuffix-join c.in_ok-expect.ensures.advances c.in_ok-expect_either.ensures.1),
)

pub loop-thread-init : goal.loop-thread-init
loop-thread-init c = record {
  names = NamesContinueAt-none_yet (remaining_texts c.args.self.now);
  advances = ([], refl);
  fails = λ rest cause w. w;
}

pub returns-in_err-expect : goal.returns-in_err-expect
returns-in_err-expect c = Err-clause_known _ _ _ c.from_residual.ensures.1 (
  search rules,
  Fails-later c.loop-thread.invariant.advances (λ rest cause w.
      c.loop-thread.invariant.fails rest cause
      (no_thread_name (omega (arith, c.loop-thread-test.true))
      (subst (λ n. FailsBefore (n ∷ []) Unexpected (remaining_texts c.loop-thread.self) rest cause) c.thread_name.ensures w)))
      c.in_err-expect.ensures.fails,
)

pub returns-in_err-expect_either : goal.returns-in_err-expect_either
returns-in_err-expect_either c = Err-clause_known _ _ _ c.from_residual-in_err-expect_either.ensures.1 (
  search rules,
  Fails-later (IsSuffix-join c.loop-thread.invariant.advances c.in_ok-expect.ensures.advances) (λ rest cause w.
      c.loop-thread.invariant.fails rest cause
      (no_thread_separator (omega (arith, c.loop-thread-test.true))
      (c.in_ok-expect.ensures.ok ∙ ap (λ x. x ∷ remaining_texts c.expect.new.self) c.thread_name.ensures) w))
      c.in_err-expect_either.ensures.2,
)

pub returns-then-is_next : goal.returns-then-is_next
returns-then-is_next c = (
  search rules,
  Fails-later {Later = λ ts rest cause. FailsInHeader rest cause c.loop-thread.thread ts} c.loop-thread.invariant.advances
      c.loop-thread.invariant.fails
      (Fails-here c.loop-thread.self _ c.refusal.ensures.place
      (too_many_threads (omega (arith, c.loop-thread-test.false, c.loop-thread.auto.thread-end)) refl
      (IfFirst-map _ _ _ (λ t e. inl (e ∙ c.thread_name-2.ensures, c.refusal.ensures.cause))
      (IfFirst-begins _ _ (sym c.is_next.ensures ∙ c.if-is_next.true))))),
)

pub returns : goal.returns
returns c = (
  search rules,
  Fails-later {Later = λ ts rest cause. FailsInHeader rest cause c.loop-thread.thread ts} c.loop-thread.invariant.advances
      c.loop-thread.invariant.fails
      (Fails-here c.loop-thread.self _ c.refusal-2.ensures.place
      (too_many_threads (omega (arith, c.loop-thread-test.false, c.loop-thread.auto.thread-end)) refl
      (IfFirst-map _ _ _ (λ t other. inr (λ e. other (e ∙ sym c.thread_name-2.ensures), c.refusal-2.ensures.cause))
      (IfFirst-begins_not _ _ (sym c.is_next.ensures ∙ c.if-is_next.false))))),
)
