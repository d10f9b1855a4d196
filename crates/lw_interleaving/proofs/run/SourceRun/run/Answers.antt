-- Proves `SourceRun::run`, which carries out events up to the first that is refused, and reports how the
-- replay ended. `RunsTo-next` adds one event. A refused event changes nothing, so the replay stops there
-- (`IsSourceReplay-stopped`); otherwise all events are carried out.
use Rattle.lw_interleaving.proofs.Common.{◌≡◌, ◌∙◌, ap, refl, sym, true≢false, RunsTo-next, SourceTransition}
use Rattle.lw_interleaving.proofs.Common.{SourceRunState}
use Rattle.lw_interleaving.proofs.api.Runs.{SameSize-source_event, ReturnsEventResult-ok}
use Rattle.lw_interleaving.proofs.api.Runs.{IsSourceReplay-stopped, IsSourceReplay-all_events}
use Rattle.lw_interleaving.proofs.run.SourceRun.run.Goals as goal

-- One more event was carried out, so the run so far is that of one event more.
pub loop-done-preserved : goal.loop-done-preserved
loop-done-preserved g c =
    let done = rw (c.loop-done.invariant.program, c.loop-done.invariant.start) at c.carry_out_event.ensures.done in
    let one = ReturnsEventResult-ok {end = c.carry_out_event.new.self.state} _ _ done c.in_default.is in
    let kept = SameSize-source_event c.args.self.now.program _ c.loop-done.self.state c.carry_out_event.new.self.state one in
    record {
      program = c.carry_out_event.ensures.program ∙ c.loop-done.invariant.program;
      start = c.carry_out_event.ensures.start ∙ c.loop-done.invariant.start;
      ran =
          RunsTo-next (SourceTransition c.args.self.now.program) c.args.events.now c.loop-done.done c.index-events-done.result
          c.args.self.now.state c.loop-done.self.state c.carry_out_event.new.self.state c.loop-done-test.true
          c.index-events-done.is c.loop-done.invariant.ran one;
      threads = kept.0 ∙ c.loop-done.invariant.threads;
      words = kept.1 ∙ c.loop-done.invariant.words;
    }

-- The next event is rejected, so the replay stops there.
pub returns-in-Err-clause-replayed : goal.returns-in-Err-clause-replayed
returns-in-Err-clause-replayed g c =
    let before : SourceRunState =
    record { program = c.args.self.now.program; start = c.args.self.now.start; state = c.loop-done.self.state } in
    IsSourceReplay-stopped (c.carry_out_event.new.self ≡ before) c.args.self.now.program c.args.events.now c.args.self.now.state
    c.loop-done.done c.in-Err.stop c.carry_out_event.new.self.state (record {
      e = c.index-events-done.result;
      mid = c.loop-done.self.state;
      answer = c.carry_out_event.result;
      done_in_range = c.loop-done-test.true;
      is_event = c.index-events-done.is;
      ran = c.loop-done.invariant.ran;
      event_result = rw (c.loop-done.invariant.program, c.loop-done.invariant.start) at c.carry_out_event.ensures.done;
      failed = c.in-Err.is;
      state_unchanged = λ same. ap (λ (r : SourceRunState). r.state) same;
    })

pub returns-then-is_final-clause-replayed : goal.returns-then-is_final-clause-replayed
returns-then-is_final-clause-replayed g c =
    let final = rw c.loop-done.invariant.program at (sym c.is_final.ensures ∙ c.if-is_final.true) in
    IsSourceReplay-all_events _ _ c.loop-done.done _ _ _ c.loop-done-test.false c.loop-done.invariant.ran (refl, final)

pub returns-else-is_final-clause-replayed : goal.returns-else-is_final-clause-replayed
returns-else-is_final-clause-replayed g c =
    let not_final = rw c.loop-done.invariant.program at (sym c.is_final.ensures ∙ c.if-is_final.false) in
    IsSourceReplay-all_events _ _ c.loop-done.done _ _ _ c.loop-done-test.false c.loop-done.invariant.ran
    (refl, λ final. true≢false (sym final ∙ not_final))

pub loop-done-init : goal.loop-done-init
loop-done-init g c = record { program = refl; start = refl; ran = refl; threads = refl; words = refl }

pub returns-in-Err-clause-program : goal.returns-in-Err-clause-program
returns-in-Err-clause-program g c = c.carry_out_event.ensures.program ∙ c.loop-done.invariant.program

pub returns-in-Err-clause-start : goal.returns-in-Err-clause-start
returns-in-Err-clause-start g c = c.carry_out_event.ensures.start ∙ c.loop-done.invariant.start
