-- Proves `SourceRun::step`, which executes a thread's next statement. `ReturnsEventResult-step` says that the changed thread
-- and memory are the state after the step. The statement is on the test's locations, as `carry_out` requires, since the test
-- is well-formed (`IsWellFormedStatement-next`).
use Rattle.lw_interleaving.proofs.Common.{refl, length, length-set, ap, sym, ◌∙◌, arith, slice_get_within}
use Rattle.lw_interleaving.proofs.Common.{SourceRunState}
use Rattle.lw_interleaving.proofs.api.Runs.{IsWellFormedStatement-next, ReturnsEventResult-step}
use Rattle.lw_interleaving.proofs.api.Runs.{ReturnsEventResult-no_thread, ReturnsEventResult-at_end}
use Rattle.lw_interleaving.proofs.api.Runs.{length-apply_change_if_some}
use Rattle.lw_interleaving.proofs.run.SourceRun.step.Goals as goal

-- The statement was executed, so the answer and the run are those of an enabled step.
pub returns-clause-done : goal.returns-clause-done
returns-clause-done g c =
    let thread = rw c.index.ensures.value at c.in-Some.ensures in
    let code = rw (c.as_slice.ensures, c.index-2.ensures.value) at c.index-as_slice-index.is in
    let next = rw c.operation.ensures at c.carry_out.ensures.thread in
    let words = rw c.operation.ensures at c.carry_out.ensures.words in
    ReturnsEventResult-step _ _ _ _ c.args.cpu _ c.self.view_is refl (record {
      th = c.in-Some.thread.now;
      code = c.index-as_slice-index.result;
      stmt = c.in-Some-get.stmt.now;
      at = record { thread_count = c.self.invariant.0; is_thread = thread; is_code = code };
      is_stmt = c.in-Some-get.ensures;
      threads = rw (c.index-3.ensures.value, next) at c.set.ensures;
      words = words;
    })

pub carry_out-requires : goal.carry_out-requires
carry_out-requires g c =
    let thread = rw c.index.ensures.value at c.in-Some.ensures in
    let code = rw (c.as_slice.ensures, c.index-2.ensures.value) at c.index-as_slice-index.is in
    let next =
    IsWellFormedStatement-next c.self.inside.threads c.args.cpu c.in-Some.thread.now
    (record { thread_count = c.self.invariant.0; is_thread = thread; is_code = code }) c.in-Some-get.ensures c.self.invariant.1
    c.self.inside.source.now.well_formed.code in
    record { operation = rw c.operation.ensures next.0; room = next.1 }

pub returns-in_default-clause-done : goal.returns-in_default-clause-done
returns-in_default-clause-done g c =
    ReturnsEventResult-no_thread _ _ _ c.args.self.now c.args.cpu c.self.view_is refl
    (rw c.index.ensures.value at c.in_default.ensures) refl

pub bounds-as_slice-index : goal.bounds-as_slice-index
bounds-as_slice-index g c =
    let thread = rw c.index.ensures.value at c.in-Some.ensures in
    let within = slice_get_within c.self.inside.threads c.args.cpu c.in-Some.thread.now (sym thread) in
    omega (arith, within, c.self.invariant.0, ap length c.as_slice.ensures, c.index-2.ensures.value)

-- The thread has no next statement, so its step is rejected.
pub returns-in_default-get-clause-done : goal.returns-in_default-get-clause-done
returns-in_default-get-clause-done g c =
    let thread = rw c.index.ensures.value at c.in-Some.ensures in
    let code = rw (c.as_slice.ensures, c.index-2.ensures.value) at c.index-as_slice-index.is in
    ReturnsEventResult-at_end _ _ _ c.args.self.now c.args.cpu c.self.view_is refl (record {
      th = c.in-Some.thread.now;
      code = c.index-as_slice-index.result;
      at = record { thread_count = c.self.invariant.0; is_thread = thread; is_code = code };
      is_stmt = c.in_default-get.ensures;
    }) refl

pub set-requires : goal.set-requires
set-requires g c =
    let thread = rw c.index.ensures.value at c.in-Some.ensures in rw c.index-3.ensures.value (slice_get_within _ _ _ (sym thread))

pub invariant_of-self : goal.invariant_of-self
invariant_of-self g c =
    let threads = rw c.index-3.ensures.value at c.set.ensures in (
      ap length threads ∙ length-set _ _ _ ∙ c.self.invariant.0,
      ap length c.carry_out.ensures.words ∙ length-apply_change_if_some _ _ c.self.inside.words ∙ c.self.invariant.1,
    )

pub returns-clause-program : goal.returns-clause-program
returns-clause-program g c = ap (λ (r : SourceRunState). r.program) c.self.view_is

pub returns-clause-threads : goal.returns-clause-threads
returns-clause-threads g c =
    let threads = rw c.index-3.ensures.value at c.set.ensures in
    ap length threads ∙ length-set _ _ _ ∙ ap (λ (r : SourceRunState). length r.state.threads) c.self.view_is

pub returns-clause-words : goal.returns-clause-words
returns-clause-words g c =
    ap length c.carry_out.ensures.words ∙ length-apply_change_if_some _ _ _ ∙ ap (λ r. length r.state.words) c.self.view_is

pub returns-clause-start : goal.returns-clause-start
returns-clause-start g c = ap (λ (r : SourceRunState). r.start) c.self.view_is

pub offset_bounds-as_slice-index : goal.offset_bounds-as_slice-index
offset_bounds-as_slice-index g c =
    let thread = rw c.index.ensures.value at c.in-Some.ensures in
    let within = slice_get_within c.self.inside.threads c.args.cpu c.in-Some.thread.now (sym thread) in
    omega (arith, within, c.self.invariant.0, ap length c.as_slice.ensures, c.index-2.ensures.value)
