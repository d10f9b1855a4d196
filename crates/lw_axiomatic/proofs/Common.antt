-- What proofs cite of std, of lower crates and of this crate's definitions, passed on from one place. Declares nothing.
pub use Rattle.std.proofs.Common.{Bool, Contains, IsTrue, List, None, Ok, Option, Some, [], ap, append-nil}
pub use Rattle.std.proofs.Common.{append_assoc, ap₂, arith, drop, eq-eqb, eqb-true, ext_get_or, false}
pub use Rattle.std.proofs.Common.{get_or-set_other, get_or-set_same, if◌then◌else◌, inl, inr, le-leb}
pub use Rattle.std.proofs.Common.{leb-true, length, length-append, length-set, lt-ltb, ltb-true, map, max}
pub use Rattle.std.proofs.Common.{nat_le, nat_lt, ne_eqb, not, option_and_then, option_map, refl, replicate}
pub use Rattle.std.proofs.Common.{slice_get, slice_index, slice_index_or, slice_set, subst, subst₂, suc, sym}
pub use Rattle.std.proofs.Common.{take, true, true≢false, zero, ℕ, ⊎_elim, ◌&&◌, ◌*◌, ◌++◌, ◌+◌, ◌-◌, ◌<◌}
pub use Rattle.std.proofs.Common.{◌==◌, ◌||◌, ◌↔◌, ◌∙◌, ◌∷◌, ◌≡◌, ◌≢◌, ◌≤◌, ◌⊎◌}
pub use Rattle.std.proofs.lemmas.Bool.{and_from, and_parts, cases_Bool, cases_eq, cases_lt, cases_order}
pub use Rattle.std.proofs.lemmas.Bool.{cond-false, cond-true, false_from_ne_true, or_cases, or_left, or_right}
pub use Rattle.std.proofs.lemmas.Bool.Decides.{nat_tests}
pub use Rattle.std.proofs.lemmas.List.{get_or_default, get_or_past, length-map, length-replicate, map-set}
pub use Rattle.std.proofs.lemmas.List.Elements.{All-contains, All-from_recursion, All-get_or}
pub use Rattle.std.proofs.lemmas.List.Elements.{Contains-append_cases, Contains-append_left}
pub use Rattle.std.proofs.lemmas.List.Elements.{Contains-append_right}
pub use Rattle.std.proofs.lemmas.Option.{get_or_from_slice_get, none-some, same_Some, slice_get-get_or}
pub use Rattle.std.proofs.lemmas.Option.{slice_get-map, slice_get_past, slice_get_within}
pub use Rattle.std.specs.List.{AllByRecursion}
pub use Rattle.std.specs.Option.{ForSome, option_map_or, option_or}
pub use Rattle.lw_base.proofs.Common.{Bytes, FinalState, HasOutcomeShape, TestHead, most_threads}
pub use Rattle.lw_base.proofs.Common.{operand_value, registers, thread_code, word_or_zero, wrapping_sum}
pub use Rattle.lw_base.proofs.api.Lists.{AtEach, length-set_word_if_some, slice_get-in_range}
pub use Rattle.lw_base.proofs.api.Lists.{slice_get-slice_set_other, slice_get-slice_set_same, take_drop-at}
pub use Rattle.lw_base.proofs.api.Zips.{list_all_zip-at_index, list_all_zip-of_each, slice_get-map_inv}
pub use Rattle.lw_base.specs.declared.event.Event.TheVariants.{Drain, Step}
pub use Rattle.lw_base.specs.declared.operand.Operand.TheVariants.{Number, Register}
pub use Rattle.lw_base.specs.declared.stop.Stop.TheVariants.{FenceWaits, SwapWaits}
pub use Rattle.lw_litmus.proofs.Common.{IsFlowPathFrom, IsFlowSuccessor, IsSuccessor, IsWellFormedStatement}
pub use Rattle.lw_litmus.proofs.Common.{IsWellScoped, IsWellScopedProgram, IsWellScopedSource}
pub use Rattle.lw_litmus.proofs.Common.{IsWellScopedThread, Language, SourceTest, Test, X86Test, guard_holds}
pub use Rattle.lw_litmus.proofs.Common.{is_load, is_locked, is_same_location, is_store, location_of}
pub use Rattle.lw_litmus.proofs.Common.{needs_empty_buffer, source_language, source_operation, writes}
pub use Rattle.lw_litmus.proofs.Common.{x86_language, x86_operation}
pub use Rattle.lw_litmus.proofs.api.Kinds.{is_store-false_if_locked, location_of-if_locked}
pub use Rattle.lw_litmus.proofs.api.WellScoped.{IsWellScoped-well_formed}
pub use Rattle.lw_litmus.specs.declared.instr.Instr.{Instr}
pub use Rattle.lw_litmus.specs.declared.instr.Instr.TheVariants.{Je, Jmp, Jne, Mfence}
pub use Rattle.lw_litmus.specs.declared.operation.Guard.{Guard}
pub use Rattle.lw_litmus.specs.declared.operation.Guard.TheVariants.{Always, NotZero, Zero}
pub use Rattle.lw_litmus.specs.declared.operation.Operation.{Operation}
pub use Rattle.lw_litmus.specs.declared.operation.Operation.TheVariants.{Branch, Compare, Fence, FetchAdd}
pub use Rattle.lw_litmus.specs.declared.operation.Operation.TheVariants.{Load, Set, Store, Sum}
pub use Rattle.lw_litmus.specs.declared.stmt.Stmt.{Stmt}
pub use Rattle.lw_interleaving.proofs.Common.{SourceOutcome, SourceRunsTo, State, initial_state}
pub use Rattle.lw_interleaving.proofs.Common.{initial_thread, is_source_final, source_outcome, source_step}
pub use Rattle.lw_interleaving.proofs.Common.{state_after_step, thread_after, thread_step}
pub use Rattle.lw_interleaving.proofs.api.Commutation.{StepEffect, StepEffect-of_step}
pub use Rattle.lw_interleaving.specs.declared.thread.Thread.{Thread}
pub use Rattle.lw_memory.proofs.Common.{flat_memory}
pub use Rattle.lw_tso.proofs.Common.{EndsBlock, HasInsertedFences, HasInsertedFencesInCode, IsInserted}
pub use Rattle.lw_tso.proofs.Common.{IsMachineOutcome, MachineState, MarksAreFences, Processor, TransitionAt}
pub use Rattle.lw_tso.proofs.Common.{advance_processor, code_without, drain_effect, has_terminated}
pub use Rattle.lw_tso.proofs.Common.{initial_machine_state, initial_processor, is_final, load_effect}
pub use Rattle.lw_tso.proofs.Common.{machine_outcome, newest_buffered, operation_effect, retarget_to_blocks}
pub use Rattle.lw_tso.proofs.Common.{set_register, step_effect}
pub use Rattle.lw_tso.proofs.api.Effects.{EffectLeadsTo, MachineTransition-of_effect}
pub use Rattle.lw_tso.proofs.api.Operations.{EffectLeadsTo-if_buffer_empty, IsEnabledEffect-operation}
pub use Rattle.lw_tso.proofs.api.Operations.{IsSuccessor-branch}
pub use Rattle.lw_tso.proofs.api.Replaying.{HasOutcomeShape-flat_outcome}
pub use Rattle.lw_fence.proofs.Common.{IsCompiled}
pub use Rattle.lw_fence.proofs.api.Compilations.{IsMachineOutcome-compiled_iff, IsWellScopedProgram-compiled}
pub use Rattle.lw_orders.proofs.Common.{Before, IsLinearExtension, IsOrder, index_in}
pub use Rattle.lw_orders.proofs.api.Indices.{index_in-injective, index_in-order_split}
pub use Rattle.lw_paths.proofs.Common.{IsPathAssignment, JumpsForward, constraints_of, item_at, items_of}
pub use Rattle.lw_paths.proofs.Common.{statement_needs_empty_buffer, statement_of}
pub use Rattle.lw_paths.proofs.api.Members.{Contains-cons, Contains-head, Contains-map, Contains-map_inv}
pub use Rattle.lw_paths.proofs.api.Members.{Contains-singleton, Contains-tail, not-Contains-nil}
pub use Rattle.lw_paths.proofs.api.Numbering.{HasItem, HasItem-on_path, IsAscendingFrom}
pub use Rattle.lw_paths.proofs.api.Numbering.{IsAscendingFrom-flow_path, IsAscendingFrom-lower_bound}
pub use Rattle.lw_paths.proofs.api.Numbering.{IsItemOnPath, IsItemOnPath-of_member, IsMember, IsStoring}
pub use Rattle.lw_paths.proofs.api.Numbering.{index_lt-if_rank_lt, item, item_index-unique, item_slot}
pub use Rattle.lw_paths.proofs.api.Numbering.{item_slot-increasing, item_slot-store_before_drain}
pub use Rattle.lw_paths.proofs.api.Numbering.{length-path_assignment, thread_rank, thread_rank-increasing}
pub use Rattle.lw_paths.proofs.api.PreservedOrder.{AreOrdered, HasOrdered-if_respected, Respects-if_ordered}
pub use Rattle.lw_paths.proofs.api.Successors.{IsFlowSuccessor-in_range}
pub use Rattle.lw_paths.proofs.api.Visitable.{JumpsForward-thread}
pub use Rattle.lw_paths.specs.declared.item.Item.{Item}
pub use Rattle.lw_finals.proofs.Common.{IsX86AssignmentOutcome, ItemsRunTo, X86FollowsPathsToEnd}
pub use Rattle.lw_finals.proofs.Common.{X86ItemTransition, event_by, x86_item_system}
pub use Rattle.lw_finals.proofs.api.Waiting.{IsAscendingBetween, IsAscendingBetween-member, entry_location}
pub use Rattle.lw_finals.proofs.api.Waiting.{own_waits, waits_after, waits_after-other_thread}
pub use Rattle.lw_finals.proofs.api.Waiting.{waits_after-same_thread}
pub use Rattle.lw_finals.proofs.api.X86Prefix.{AreWaitingStores, AreWaitingStores-next}
pub use Rattle.lw_finals.proofs.api.X86Prefix.{AreWaitingStores-start, DrainsOldest-at_turn, IsDrainedLater}
pub use Rattle.lw_finals.proofs.api.X86Waiting.{AllBuffersHoldStores, AllBuffersHoldStores-after_item}
pub use Rattle.lw_finals.proofs.api.X86Waiting.{AllBuffersHoldStores-start, BufferHolds, HoldsStores}
pub use Rattle.lw_finals.proofs.api.X86Waiting.{ItemStep, ItemStep-of_transition}
pub use Rattle.lw_report.proofs.Common.{IsReport, is_true}
pub use Rattle.lw_report.specs.declared.judgement.Claim.TheVariants.{Exact}
pub use Rattle.lw_bench.proofs.Common.{HasTest, IsOutputOf, IsStatesReport, IsWellFormedTest}
pub use Rattle.lw_bench.proofs.Common.{IsWithinListLimits, LitmusTest, Of_source, Of_x86, OutcomeOf}
pub use Rattle.lw_bench.proofs.Common.{head_of_test, message_passing_in_x86, store_buffering_in_x86}
pub use Rattle.lw_axiomatic.specs.Axioms.{Acyclic, Coherence, GlobalHappensBefore, HappensBefore, IsAllowed}
pub use Rattle.lw_axiomatic.specs.Axioms.{OnOneLocation, SatisfiesAxioms}
pub use Rattle.lw_axiomatic.specs.Candidates.{IsCandidate, IsLast, IsReadFrom, ThreadExecutes}
pub use Rattle.lw_axiomatic.specs.Candidates.{ThreadExecutesTo}
pub use Rattle.lw_axiomatic.specs.CoherenceLaws.{CoRR, CoRW, CoWR, CoWW}
pub use Rattle.lw_axiomatic.specs.CoherenceOrders.{IsCoherenceOrder}
pub use Rattle.lw_axiomatic.specs.Cycles.{HasNoCycle, Walk}
pub use Rattle.lw_axiomatic.specs.DataRaces.{HasDataRace, is_plain}
pub use Rattle.lw_axiomatic.specs.Examples.{both_loads_early, one_is_lost, own_loads, own_loads_fenced}
pub use Rattle.lw_axiomatic.specs.Examples.{spin_lock, spin_lock_code}
pub use Rattle.lw_axiomatic.specs.Executions.{Co, Execution, Fr, IsEvent, MemoryEvent, Po, PoLoc, Ppo, Reads}
pub use Rattle.lw_axiomatic.specs.Executions.{Rf, Rfe, Writes, location, operation_at, operation_is, reads}
pub use Rattle.lw_axiomatic.specs.Fenced.{AreOnPath, AreStoreAndLoad, HasFenceBetween, HasFenceOnPath}
pub use Rattle.lw_axiomatic.specs.Fenced.{IsAtomic, IsFenced, IsFencedInAllThreads, IsFencedWhereOthersWrite}
pub use Rattle.lw_axiomatic.specs.Fenced.{IsFencedWhereOverwritten, IsFencedWhereShared}
pub use Rattle.lw_axiomatic.specs.Fenced.{IsLocationOnlyWrittenBy, IsOfOneThread}
pub use Rattle.lw_axiomatic.specs.Interleavings.{Interleaved, InterleavedRunsTo, InterleavingOutcome, IsEnd}
pub use Rattle.lw_axiomatic.specs.Interleavings.{IsStep, interleaved_after, read_value, start, words_after}
pub use Rattle.lw_axiomatic.specs.Locks.{Acquires, IsOrderedBefore, IsOverBefore, IsUsedAsLock, Releases}
pub use Rattle.lw_axiomatic.specs.Races.{HasTriangularRace, IsNext, RunsToWithoutBarrier}
pub use Rattle.lw_axiomatic.specs.Sequential.{IsScOutcome, IsSequentiallyConsistent, ScOrder}
pub use Rattle.lw_axiomatic.specs.SpareFences.{AreSpare, HasOtherFence, IsInsertedAt}
pub use Rattle.lw_axiomatic.specs.SplitEvents.{AreHalves, AreOfTwoThreads, Half, HalfReads, HalfWrites}
pub use Rattle.lw_axiomatic.specs.SplitEvents.{HalvesCo, HalvesFr, HalvesPo, HalvesPoLoc, HalvesPpo, HalvesRf}
pub use Rattle.lw_axiomatic.specs.SplitEvents.{IsAllowedBySplitAxioms, IsHalf, SatisfiesSplitAxioms}
pub use Rattle.lw_axiomatic.specs.SplitEvents.{is_ordered_with_all, reads_first, writes_last}
pub use Rattle.lw_axiomatic.specs.ThreadStates.{ThreadState, at_next, first_state, state_after, word_written}
pub use Rattle.lw_axiomatic.specs.Times.{HasConsistentTimes, HasTimes, IsBefore, IsNewest}
