-- What proofs cite of std, of lower crates and of this crate's definitions, passed on from one place. Declares nothing.
pub use Rattle.std.proofs.Common.{All, Bool, Err, IsOk, IsTrue, List, None, Ok, OnErr, Option, Result, Some}
pub use Rattle.std.proofs.Common.{[], add-one, add_comm, ap, append-nil, append_assoc, ap₂, arith, cond}
pub use Rattle.std.proofs.Common.{count_by, drop, drop-cons, eqb-true, false, get_or, get_or-set_other}
pub use Rattle.std.proofs.Common.{get_or-set_same, if◌then◌else◌, inl, inr, is_ok, le-leb, leb-true, length}
pub use Rattle.std.proofs.Common.{length-append, length-set, map, nat_le, not, refl, replicate, set, set-set}
pub use Rattle.std.proofs.Common.{slice_get, slice_index, slice_index_or, slice_set, subst, subst₂, suc, sym}
pub use Rattle.std.proofs.Common.{take, true, true≢false, zero, ℕ, ⊎_elim, ◌%◌, ◌&&◌, ◌*◌, ◌++◌, ◌+◌, ◌-◌}
pub use Rattle.std.proofs.Common.{◌<◌, ◌==◌, ◌^◌, ◌||◌, ◌↔◌, ◌∙◌, ◌∷◌, ◌≡◌, ◌≢◌, ◌≤◌, ◌⊎◌}
pub use Rattle.std.proofs.Math.ListN.{length-replicate}
pub use Rattle.std.proofs.Math.Seq.{get_or-append_seam, take-append_seam}
pub use Rattle.std.proofs.lemmas.Bool.{and_from, and_parts, cases_eq, cases_lt, eqb-false, false≢true}
pub use Rattle.std.proofs.lemmas.Grind.{common_steps}
pub use Rattle.std.proofs.lemmas.List.{drop_all, drop_more, get_or_past, get_or_read, length-map, map-append}
pub use Rattle.std.proofs.lemmas.List.{nil_from_length, replicate-append-replicate, set-get_or}
pub use Rattle.std.proofs.lemmas.List.Elements.{All-cons, All-from_recursion, All-nil}
pub use Rattle.std.proofs.lemmas.List.Sums.{sum_by-append, sum_by-cons}
pub use Rattle.std.proofs.lemmas.Option.{get_or_from_slice_get, none-some, same_Some, slice_get-get_or}
pub use Rattle.std.proofs.lemmas.Option.{slice_get_past, slice_get_read, slice_get_within}
pub use Rattle.std.specs.List.{AllByRecursion}
pub use Rattle.std.specs.Option.{ForSome, option_map_or}
pub use Rattle.lw_base.proofs.Common.{FinalState, IsRegisterIndex, IsWellFormedHead, IsWordNumber, TestHead}
pub use Rattle.lw_base.proofs.Common.{operand_value, registers, thread_code, wrapping_sum}
pub use Rattle.lw_base.proofs.api.Lists.{OfFellows-set_both, at_index, length-set_word_if_some, set-get_same}
pub use Rattle.lw_base.proofs.api.Lists.{slice_get-append_cases, slice_get-in_range, slice_get-slice_set_same}
pub use Rattle.lw_base.proofs.api.Replays.{RunsTo-append}
pub use Rattle.lw_base.proofs.api.Zips.{list_all_zip-at_index, list_all_zip-of_each, maps_equal-at_each_index}
pub use Rattle.lw_base.proofs.api.Zips.{slice_get-map_inv}
pub use Rattle.lw_base.specs.declared.event.Event.{Event}
pub use Rattle.lw_base.specs.declared.event.Event.TheVariants.{Drain, Evict, Step}
pub use Rattle.lw_base.specs.declared.head.Arch.TheVariants.{X86}
pub use Rattle.lw_base.specs.declared.operand.Operand.{Operand}
pub use Rattle.lw_base.specs.declared.operand.Operand.TheVariants.{Number, Register}
pub use Rattle.lw_base.specs.declared.stop.Stop.{Stop}
pub use Rattle.lw_base.specs.declared.stop.Stop.TheVariants.{FenceWaits, SwapWaits}
pub use Rattle.lw_litmus.proofs.Common.{HasInitialWords, IsFlowSuccessor, IsSuccessor, IsWellFormedProgram}
pub use Rattle.lw_litmus.proofs.Common.{IsWellFormedSource, IsWellFormedStatement, IsWellFormedThread}
pub use Rattle.lw_litmus.proofs.Common.{IsWellScopedProgram, IsWellScopedSource, IsWellScopedThread}
pub use Rattle.lw_litmus.proofs.Common.{SourceTest, X86Test, branch_target, falls_through, is_load, is_store}
pub use Rattle.lw_litmus.proofs.Common.{location_of, operand_numbers, operand_registers, program_of}
pub use Rattle.lw_litmus.proofs.Common.{registers_of, source_language, source_of, source_operation}
pub use Rattle.lw_litmus.proofs.Common.{x86_language}
pub use Rattle.lw_litmus.proofs.api.WellScoped.{IsWellScoped-well_formed, IsWellScopedThread-well_formed}
pub use Rattle.lw_litmus.specs.declared.instr.Instr.{Instr}
pub use Rattle.lw_litmus.specs.declared.operation.Operation.{Operation}
pub use Rattle.lw_litmus.specs.declared.operation.Operation.TheVariants.{Branch, Compare, Fence}
pub use Rattle.lw_litmus.specs.declared.stmt.Stmt.{Stmt}
pub use Rattle.lw_litmus.specs.declared.stmt.Stmt.TheVariants.{FetchAdd, Goto, IfEq, IfNe, Load, Set, Store}
pub use Rattle.lw_litmus.specs.declared.stmt.Stmt.TheVariants.{Sum, Swap}
pub use Rattle.lw_interleaving.proofs.Common.{InterleavesTo, IsStepResult, SourceOutcome, SourceRunState}
pub use Rattle.lw_interleaving.proofs.Common.{SourceRunsTo, State, advance, initial_state, source_outcome}
pub use Rattle.lw_interleaving.proofs.Common.{source_step, state_after_step, thread_after, thread_step}
pub use Rattle.lw_interleaving.proofs.Common.{words_after}
pub use Rattle.lw_interleaving.proofs.api.Commutation.{IsSuccessor-thread_after, StepEffect}
pub use Rattle.lw_interleaving.proofs.api.Commutation.{StepEffect-of_step, state_after, state_of}
pub use Rattle.lw_interleaving.proofs.api.Commutation.{thread_after-no_location, words_after-no_location}
pub use Rattle.lw_interleaving.proofs.api.Runs.{ReturnsEventResult-ok}
pub use Rattle.lw_interleaving.specs.declared.thread.Thread.{Thread}
pub use Rattle.lw_memory.proofs.Common.{Memory, flat_memory, words_invariant, words_lawful}
pub use Rattle.lw_tso.proofs.Common.{CanTerminate, EventEffect, HasInsertedFences, HasInsertedFencesInCode}
pub use Rattle.lw_tso.proofs.Common.{IsMachineOutcome, LocalStep, MachineRunsTo, MachineState}
pub use Rattle.lw_tso.proofs.Common.{MachineTransition, MarksAreFences, Processor, ReplaysTo}
pub use Rattle.lw_tso.proofs.Common.{advance_processor, cpu_of, drain_effect, event_effect, has_terminated}
pub use Rattle.lw_tso.proofs.Common.{initial_machine_state, initial_processor, is_final}
pub use Rattle.lw_tso.proofs.Common.{jump_or_advance_processor, load_effect, machine_outcome, newest_buffered}
pub use Rattle.lw_tso.proofs.Common.{retarget_to_blocks, set_register, step_effect, unmarked_count_before}
pub use Rattle.lw_tso.proofs.Common.{unmarked_instructions}
pub use Rattle.lw_tso.proofs.api.Effects.{EffectLeadsTo, EventOccurrence, EventOccurrence-of_event}
pub use Rattle.lw_tso.proofs.api.Effects.{MachineTransition-of_effect, not-EffectLeadsTo-evict_event, state}
pub use Rattle.lw_tso.proofs.api.Endings.{CanTerminate-reached}
pub use Rattle.lw_tso.proofs.api.FenceRemoval.{HasInsertedFencesInCode-code_without, MarksAreFences-append}
pub use Rattle.lw_tso.proofs.api.FenceRemoval.{unmarked_count_before-cons, unmarked_count_before-zero}
pub use Rattle.lw_tso.proofs.api.FenceRemoval.{unmarked_instructions-append}
pub use Rattle.lw_tso.proofs.api.Operations.{EffectLeadsTo-if_buffer_empty, IsEnabledEffect-operation}
pub use Rattle.lw_fence.specs.Compiling.{IsCompiled, IsCompiledThread, instrs_of, lower_compare, lowered}
pub use Rattle.lw_fence.specs.Compiling.{lowered_code, starts_from, with_move_if}
pub use Rattle.lw_fence.specs.Fences.{HasKind, HasOperation, IsFlowPath, IsReachableFromStore, NeedsFence}
pub use Rattle.lw_fence.specs.Fences.{preserves_pending_stores}
pub use Rattle.lw_fence.specs.Schedules.{after_step, compiled_schedule, statement_events, thread_events}
pub use Rattle.lw_fence.specs.Unfenced.{AreSubset, IsCompiledWith, IsCompiledWithoutFences, IsThreadWith}
pub use Rattle.lw_fence.specs.Unfenced.{NeedsNoFence}
pub use Rattle.lw_fence.specs.declared.lowered.Lowered.{Lowered}
pub use Rattle.lw_fence.specs.declared.lowered.Lowered.TheVariants.{One, Two}
pub use Rattle.lw_fence.specs.inner.Marks.{mark_successors, may_wait, with_mark}
