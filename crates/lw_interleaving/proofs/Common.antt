-- What proofs cite of std, of lower crates and of this crate's definitions, passed on from one place. Declares nothing.
pub use Rattle.std.proofs.Common.{All, Bool, Err, List, MatchResult, None, Ok, Option, Result, Some, [], ap}
pub use Rattle.std.proofs.Common.{append_assoc, ap₂, arith, drop, eq-eqb, false, get_or, get_or-set_other}
pub use Rattle.std.proofs.Common.{if◌then◌else◌, inl, inr, length, length-set, length-take-le, lt-ltb, map}
pub use Rattle.std.proofs.Common.{nat_lt, option_and_then, option_map, refl, rules, slice_get, slice_set}
pub use Rattle.std.proofs.Common.{subst, suc, sym, take, take-suc, take_all, true, true≢false, ℕ, ◌&&◌, ◌++◌}
pub use Rattle.std.proofs.Common.{◌+◌, ◌<◌, ◌^◌, ◌||◌, ◌∙◌, ◌∷◌, ◌≡◌, ◌≢◌, ◌≤◌, ◌⊎◌}
pub use Rattle.std.proofs.lemmas.Grind.{common_steps}
pub use Rattle.std.proofs.lemmas.List.{drop_more, length-map, map-append, map_more, set-get_or, set_at}
pub use Rattle.std.proofs.lemmas.List.{set_comm}
pub use Rattle.std.proofs.lemmas.Option.{slice_get-map, slice_get_within}
pub use Rattle.lw_base.proofs.Common.{FinalState, HasReplayEnd, apply_change_if_some, changed_word}
pub use Rattle.lw_base.proofs.Common.{thread_code, word_or_zero}
pub use Rattle.lw_base.proofs.api.Lists.{at_index, slice_get-slice_set_other, slice_get-slice_set_same}
pub use Rattle.lw_base.proofs.api.Replays.{RunsTo-next}
pub use Rattle.lw_base.specs.declared.change.Change.{Change}
pub use Rattle.lw_base.specs.declared.event.Event.{Event}
pub use Rattle.lw_base.specs.declared.event.Event.TheVariants.{Drain, Evict, Step}
pub use Rattle.lw_base.specs.declared.stop.End.{End}
pub use Rattle.lw_base.specs.declared.stop.Stop.{Stop}
pub use Rattle.lw_base.specs.declared.stop.Stop.TheVariants.{BufferEmpty, Ended, NoCpu, NoLocation, NotHeld}
pub use Rattle.lw_litmus.proofs.Common.{IsFlowSuccessor, IsSuccessor, IsWellFormedStatement}
pub use Rattle.lw_litmus.proofs.Common.{IsWellFormedThread, guard_holds, is_same_location, location_of}
pub use Rattle.lw_litmus.proofs.Common.{operations_conflict, source_language, source_operation, writes}
pub use Rattle.lw_litmus.proofs.Common.{written_change}
pub use Rattle.lw_litmus.proofs.api.Kinds.{written_change-none}
pub use Rattle.lw_litmus.specs.declared.operation.Guard.TheVariants.{Always}
pub use Rattle.lw_litmus.specs.declared.operation.Operation.{Operation}
pub use Rattle.lw_litmus.specs.declared.operation.Operation.TheVariants.{Branch}
pub use Rattle.lw_litmus.specs.declared.stmt.Stmt.{Stmt}
pub use Rattle.lw_interleaving.specs.Runs.{InterleavesTo, IsSourceReplay, IsStepResult, SourceOutcome}
pub use Rattle.lw_interleaving.specs.Runs.{SourceRunState, SourceRunsTo, SourceTransition, State}
pub use Rattle.lw_interleaving.specs.Runs.{initial_state, initial_thread, is_source_final}
pub use Rattle.lw_interleaving.specs.Runs.{source_event_result, source_outcome, source_step, state_after_step}
pub use Rattle.lw_interleaving.specs.Runs.{thread_step}
pub use Rattle.lw_interleaving.specs.Statements.{advance, thread_after, thread_with, words_after}
pub use Rattle.lw_interleaving.specs.Steps.{FollowsFlow, StepsCommute, next_statement, thread_position}
pub use Rattle.lw_interleaving.specs.declared.thread.Thread.{Thread}
