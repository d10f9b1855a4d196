-- What proofs cite of std, of lower crates and of this crate's definitions, passed on from one place. Declares nothing.
pub use Rattle.std.proofs.Common.{All, Bool, Contains, Err, IfOk, IsPermutation, IsTrue, List, None, Ok, OnOk}
pub use Rattle.std.proofs.Common.{Option, Result, Some, [], ap, append-nil, append_assoc, ap₂, arith, drop}
pub use Rattle.std.proofs.Common.{drop-cons, eq-eqb, eqb-true, false, filter, get_or, if◌then◌else◌, inl, inr}
pub use Rattle.std.proofs.Common.{leb-true, length, length-append, length-set, map, nat_le, ne_eqb, not}
pub use Rattle.std.proofs.Common.{option_map, refl, slice_get, slice_set, subst, suc, sym, take, true}
pub use Rattle.std.proofs.Common.{true≢false, zero, ℕ, ⊎_elim, ◌++◌, ◌+◌, ◌<◌, ◌==◌, ◌||◌, ◌↔◌, ◌∙◌, ◌∷◌, ◌≡◌}
pub use Rattle.std.proofs.Common.{◌≢◌, ◌≤◌, ◌⊎◌}
pub use Rattle.std.proofs.lemmas.Bool.{and_from, and_parts, cases_Bool, cases_eq, cases_lt, cases_order}
pub use Rattle.std.proofs.lemmas.Bool.{cond-false, cond-true, false_from_ne_true, or_left, or_right}
pub use Rattle.std.proofs.lemmas.Grind.{common_steps}
pub use Rattle.std.proofs.lemmas.List.{drop_all, get_or_past, length-map, map-append, nil_from_length}
pub use Rattle.std.proofs.lemmas.List.Elements.{All-append, All-cons, All-contains, All-contains_itself}
pub use Rattle.std.proofs.lemmas.List.Elements.{All-head, All-nil, All-tail, All-weaker, Contains-append_left}
pub use Rattle.std.proofs.lemmas.List.Elements.{Contains-append_right}
pub use Rattle.std.proofs.lemmas.List.Sorted.{All-permutation}
pub use Rattle.std.proofs.lemmas.Option.{get_or_from_slice_get, none-some, same_Some, slice_get-get_or}
pub use Rattle.std.proofs.lemmas.Option.{slice_get-map, slice_get_within}
pub use Rattle.std.proofs.lemmas.Result.{IfErr-weaker, IfOk-from_err, IfOk-weaker, err_from_is_err_and}
pub use Rattle.std.proofs.lemmas.Result.{on_ok_weaker}
pub use Rattle.std.specs.Option.{option_map_or}
pub use Rattle.lw_base.proofs.Common.{FinalState, HasOutcomeShape, RunsTo, thread_code}
pub use Rattle.lw_base.proofs.api.Lists.{at_index, slice_get-in_range, slice_get-slice_set_other}
pub use Rattle.lw_base.proofs.api.Lists.{slice_get-slice_set_same}
pub use Rattle.lw_base.proofs.api.Replays.{RunsTo-append}
pub use Rattle.lw_base.proofs.api.Zips.{list_all_zip-at_index, slice_get-map_inv}
pub use Rattle.lw_base.specs.declared.event.Event.{Event}
pub use Rattle.lw_base.specs.declared.event.Event.TheVariants.{Drain, Evict, Step}
pub use Rattle.lw_base.specs.declared.stop.Stop.{Stop}
pub use Rattle.lw_litmus.proofs.Common.{IsFlowPathFrom, IsFlowSuccessor, IsSuccessor, IsWellScoped}
pub use Rattle.lw_litmus.proofs.Common.{IsWellScopedProgram, IsWellScopedSource, IsWellScopedThread, Language}
pub use Rattle.lw_litmus.proofs.Common.{SourceTest, Test, X86Test, is_same_location, is_store, location_of}
pub use Rattle.lw_litmus.proofs.Common.{needs_empty_buffer, program_of, source_language, source_of, writes}
pub use Rattle.lw_litmus.proofs.Common.{x86_language, x86_operation}
pub use Rattle.lw_litmus.proofs.api.WellScoped.{IsWellScoped-well_formed}
pub use Rattle.lw_litmus.specs.declared.instr.Instr.{Instr}
pub use Rattle.lw_litmus.specs.declared.operation.Operation.{Operation}
pub use Rattle.lw_litmus.specs.declared.operation.Operation.TheVariants.{Load, Store}
pub use Rattle.lw_litmus.specs.declared.stmt.Stmt.{Stmt}
pub use Rattle.lw_interleaving.proofs.Common.{FollowsFlow, InterleavesTo, SourceOutcome, SourceRunsTo, State}
pub use Rattle.lw_interleaving.proofs.Common.{initial_state, initial_thread, is_source_final, next_statement}
pub use Rattle.lw_interleaving.proofs.Common.{source_outcome, source_step, thread_position}
pub use Rattle.lw_interleaving.proofs.api.Commutation.{FollowsFlow-source_step, StepEffect-of_step}
pub use Rattle.lw_interleaving.proofs.api.Commutation.{StepsCommute-no_conflict, next_statement-at_position}
pub use Rattle.lw_interleaving.proofs.api.Commutation.{source_step-other_position}
pub use Rattle.lw_interleaving.specs.declared.thread.Thread.{Thread}
pub use Rattle.lw_memory.proofs.Common.{Invariant, Memory, flat_memory}
pub use Rattle.lw_mesi.proofs.Common.{caches_by, caches_invariant, coherent_word, unheld_cache_line}
pub use Rattle.lw_mesi.specs.declared.protocol.Protocol.{Protocol}
pub use Rattle.lw_mesi.specs.declared.protocol.Protocol.TheVariants.{Mesi}
pub use Rattle.lw_tso.proofs.Common.{AreDrainAndPassing, AreIndependent, CommutesWithDrain, DoNotConflict}
pub use Rattle.lw_tso.proofs.Common.{EventEffect, EventResult, InitialWords, IsAtPosition, IsInitialMemory}
pub use Rattle.lw_tso.proofs.Common.{IsMachineOutcome, MachineRunsTo, MachineState, MachineTransition}
pub use Rattle.lw_tso.proofs.Common.{MayPassOldest, Processor, ReplaysTo, TransitionAt, cpu_of, drain_effect}
pub use Rattle.lw_tso.proofs.Common.{event_effect, initial_machine_state, initial_processor, is_final}
pub use Rattle.lw_tso.proofs.Common.{operation_effect, over_flat_memory, position_of, step_effect}
pub use Rattle.lw_tso.proofs.Common.{without_evictions}
pub use Rattle.lw_tso.proofs.api.Effects.{EffectLeadsTo, EventOccurrence, EventOccurrence-of_event}
pub use Rattle.lw_tso.proofs.api.Effects.{MachineTransition-deterministic, not-EffectLeadsTo-evict_event}
pub use Rattle.lw_tso.proofs.api.Effects.{state}
pub use Rattle.lw_tso.proofs.api.Neighbours.{EventsCommute-independent, position_of-in_range}
pub use Rattle.lw_tso.proofs.api.Operations.{Buffers, OperationTransition, OperationTransition-of_effect}
pub use Rattle.lw_tso.proofs.api.Operations.{accessed_location-of_operation}
pub use Rattle.lw_fence.proofs.Common.{after_step, compiled_schedule, statement_events, thread_events}
pub use Rattle.lw_orders.proofs.Common.{AreDependent, AreDistinct, AreTraceEquivalent, Before, Constraints}
pub use Rattle.lw_orders.proofs.Common.{IsAdjacentSwap, IsLinearExtension, IsOrder, Progress, Respects}
pub use Rattle.lw_orders.proofs.Common.{index_in, indices, is_ordered, most_items, orders}
pub use Rattle.lw_orders.proofs.api.Indices.{All-index_in, IsOrder-of_distinct, index_in-injective}
pub use Rattle.lw_orders.proofs.api.Indices.{index_in-order_split, index_in-other, index_in-same}
pub use Rattle.lw_orders.proofs.api.SwapInvariance.{preserved-by_swaps, trace_equivalent_orders_are_connected}
pub use Rattle.lw_outcome_map.proofs.api.Listings.{Contains-permuted_outcomes}
pub use Rattle.lw_outcome_map.specs.Listings.{OutcomeEntries, OutcomesWith, outcomes_of}
pub use Rattle.lw_paths.proofs.Common.{HasTooManyItems, IsPathAssignment, IsWithinLimits, JumpsForward}
pub use Rattle.lw_paths.proofs.Common.{LimitFaultOfAssignment, VisitsAll, assignment_of, conflict_by}
pub use Rattle.lw_paths.proofs.Common.{constraints_of, drained_location, item_at, items_conflict, items_of}
pub use Rattle.lw_paths.proofs.Common.{items_of_assignment, location_by, reduced_constraints_of}
pub use Rattle.lw_paths.proofs.Common.{statement_needs_empty_buffer, statement_of, writes_by}
pub use Rattle.lw_paths.proofs.api.ConflictSymmetry.{conflict_by-sym}
pub use Rattle.lw_paths.proofs.api.Counting.{GivesReasons, LimitFaultIsTrue-of_assignments}
pub use Rattle.lw_paths.proofs.api.Counting.{LimitFaultOfAssignment-items_refused}
pub use Rattle.lw_paths.proofs.api.Counting.{LimitFaultOfAssignments-visit_fails, VisitorView}
pub use Rattle.lw_paths.proofs.api.Enumerated.{Contains-path_assignments}
pub use Rattle.lw_paths.proofs.api.Members.{Contains-cons, Contains-head, Contains-map_inv}
pub use Rattle.lw_paths.proofs.api.Members.{Contains-singleton, Contains-tail, not-Contains-nil}
pub use Rattle.lw_paths.proofs.api.Numbering.{HasItem, HasItem-on_path, HasItem-same_position}
pub use Rattle.lw_paths.proofs.api.Numbering.{IsAscendingFrom, IsAscendingFrom-flow_path}
pub use Rattle.lw_paths.proofs.api.Numbering.{IsAscendingFrom-lower_bound, IsItemOnPath}
pub use Rattle.lw_paths.proofs.api.Numbering.{IsItemOnPath-of_member, IsMember, IsStoring, Pairwise}
pub use Rattle.lw_paths.proofs.api.Numbering.{index_lt-if_rank_lt, item, item_index-unique}
pub use Rattle.lw_paths.proofs.api.Numbering.{item_slot-increasing, item_slot-store_before_drain}
pub use Rattle.lw_paths.proofs.api.Numbering.{length-path_assignment, thread_rank, thread_rank-increasing}
pub use Rattle.lw_paths.proofs.api.PairRanges.{All-indices_in_range}
pub use Rattle.lw_paths.proofs.api.PreservedOrder.{AreOrdered, HasOrdered-if_respected, Respects-if_ordered}
pub use Rattle.lw_paths.proofs.api.PreservedPairs.{AreAscending-conflicts, Contains-conflict_pair}
pub use Rattle.lw_paths.proofs.api.Reduced.{IsLinearExtension-reduced_iff}
pub use Rattle.lw_paths.proofs.api.ReducedPairs.{IsWellFormed-reduced_pairs}
pub use Rattle.lw_paths.proofs.api.Successors.{IsFlowSuccessor-in_range}
pub use Rattle.lw_paths.proofs.api.Visitable.{IsVisitable-well_formed, JumpsForward-thread}
pub use Rattle.lw_paths.specs.declared.item.Item.{Item}
pub use Rattle.lw_tso_caches.proofs.api.CompleteLists.{HasOutcomeShape-of_compiled, IsListedOutcome-of_source}
pub use Rattle.lw_tso_caches.proofs.api.CompleteLists.{ListsMachine-of_complete, without_evictions-flat_run}
pub use Rattle.lw_tso_caches.specs.CompleteLists.{AreAllOutcomes, IsComplete}
pub use Rattle.lw_tso_caches.specs.OverCaches.{OutcomeOverCaches, ReplaysToOverCaches}
pub use Rattle.lw_finals.specs.OrderRuns.{FollowsPathsToEnd, IsAssignmentOutcome, ItemTransitionSystem}
pub use Rattle.lw_finals.specs.OrderRuns.{ItemsRunTo, OrderRunsTo}
pub use Rattle.lw_finals.specs.SourceRuns.{IsSourceAssignmentOutcome, SourceFollowsPathsToEnd}
pub use Rattle.lw_finals.specs.SourceRuns.{SourceItemTransition, source_item_system}
pub use Rattle.lw_finals.specs.X86Runs.{IsX86AssignmentOutcome, ReplaysFlatTo, X86FollowsPathsToEnd}
pub use Rattle.lw_finals.specs.X86Runs.{X86ItemTransition, event_by, event_of, events_of, x86_item_system}
pub use Rattle.lw_finals.specs.declared.collect.Gatherer.{Gatherer}
pub use Rattle.lw_finals.specs.inner.Collected.{CollectsOutcomes, OutcomesOfAssignment, OutcomesOfOne}
pub use Rattle.lw_finals.specs.inner.Collected.{OutcomesOfProgram, RunnerState}
pub use Rattle.lw_finals.specs.inner.Listed.{AreComplete, AreFlat}
pub use Rattle.lw_finals.specs.inner.SourceRunners.{CompiledSource, HasStatementAt, events_at, item_events}
pub use Rattle.lw_finals.specs.inner.SourceRunners.{threads_of}
