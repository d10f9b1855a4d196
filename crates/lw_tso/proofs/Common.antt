-- What proofs cite of std, of lower crates and of this crate's definitions, passed on from one place. Declares nothing.
pub use Rattle.std.proofs.Common.{All, Bool, Bor, Err, IsSome, IsTrue, List, None, Ok, OnErr, Option, Some}
pub use Rattle.std.proofs.Common.{Vec, [], ap, append-nil, ap₂, arith, cond, drop, drop-cons, eq-eqb, false}
pub use Rattle.std.proofs.Common.{get_or, get_or-set_other, get_or-set_same, get_or-take, if◌then◌else◌, inl}
pub use Rattle.std.proofs.Common.{inr, le-leb, le-ltb, leb-true, length, length-append, length-set}
pub use Rattle.std.proofs.Common.{length-take, length-take-le, lt-ltb, ltb-true, map, nat_le, nat_lt, ne_eqb}
pub use Rattle.std.proofs.Common.{not, option_copied, option_map, refl, set, set-set, slice_get, slice_index}
pub use Rattle.std.proofs.Common.{slice_set, subst, suc, sym, take, take-suc, take_all, true, true≢false}
pub use Rattle.std.proofs.Common.{unwrap_or, vec_len, zero, zip, ℕ, ⊎_elim, ◌&&◌, ◌*◌, ◌++◌, ◌+◌, ◌-◌, ◌<◌}
pub use Rattle.std.proofs.Common.{◌==◌, ◌^◌, ◌↔◌, ◌∙◌, ◌∷◌, ◌≡◌, ◌≢◌, ◌≤◌, ◌⊎◌}
pub use Rattle.circular_buffer.proofs.Places.{slice_get-last, slice_get-push, slice_get-set_other}
pub use Rattle.circular_buffer.proofs.Places.{slice_get-set_same, slice_get-some}
pub use Rattle.std.proofs.lemmas.Bool.{and_from, and_parts, cases_eq, cases_lt, or_right}
pub use Rattle.std.proofs.lemmas.Grind.{common_steps}
pub use Rattle.std.proofs.lemmas.List.{drop_all, get_or_past, length-map, map-append, map-set, map_more}
pub use Rattle.std.proofs.lemmas.List.{set_comm, take_more, take_more_set}
pub use Rattle.std.proofs.lemmas.List.Elements.{All-append, All-nil}
pub use Rattle.std.proofs.lemmas.List.FromFn.{get_or-range_with_len}
pub use Rattle.std.proofs.lemmas.List.Sums.{count_by-le-length, sum_by-append, sum_by-cons, sum_by-drop_more}
pub use Rattle.std.proofs.lemmas.List.Sums.{sum_by-take-drop}
pub use Rattle.std.proofs.lemmas.Option.{get_or_from_slice_get, same_Some, slice_get-get_or, slice_get-map}
pub use Rattle.std.proofs.lemmas.Option.{slice_get_past, slice_get_read, slice_get_within}
pub use Rattle.std.proofs.lemmas.Simd.{map-map}
pub use Rattle.std.specs.List.{AllByRecursion, list_all, range_with_len}
pub use Rattle.std.specs.Option.{ForSome, option_or}
pub use Rattle.lw_base.proofs.Common.{FinalState, HasOutcomeShape, IsEvent, IsTestName, IsWellFormedHead}
pub use Rattle.lw_base.proofs.Common.{NameTable, TestHead, changed_word, most_locations, most_threads}
pub use Rattle.lw_base.proofs.Common.{operand_value, registers, thread_code, wrapping_sum}
pub use Rattle.lw_base.proofs.api.Lists.{AtEach-set, OfFellows-set_both, at_index, length-set_word_if_some}
pub use Rattle.lw_base.proofs.api.Lists.{set-get_same, slice_get-in_range, slice_get-slice_set_other}
pub use Rattle.lw_base.proofs.api.Lists.{slice_get-slice_set_same}
pub use Rattle.lw_base.proofs.api.Replays.{RunsTo-append, RunsTo-next}
pub use Rattle.lw_base.proofs.api.Zips.{list_all_zip-at_index, list_all_zip-of_each, maps_equal-at_each_index}
pub use Rattle.lw_base.proofs.api.Zips.{slice_get-map_inv}
pub use Rattle.lw_base.specs.declared.change.Change.{Change}
pub use Rattle.lw_base.specs.declared.event.Event.{Event}
pub use Rattle.lw_base.specs.declared.event.Event.TheVariants.{Drain, Evict, Step}
pub use Rattle.lw_base.specs.declared.stop.Stop.{Stop}
pub use Rattle.lw_base.specs.declared.stop.Stop.TheVariants.{Ended, FenceWaits, NoCpu, NoLocation, NotHeld}
pub use Rattle.lw_base.specs.declared.stop.Stop.TheVariants.{SwapWaits}
pub use Rattle.lw_litmus.proofs.Common.{HasInitialWords, IsSuccessor, IsWellFormedProgram}
pub use Rattle.lw_litmus.proofs.Common.{IsWellFormedStatement, IsWellFormedThread, IsWellScopedProgram}
pub use Rattle.lw_litmus.proofs.Common.{IsWellScopedThread, X86Test, branch_target, falls_through}
pub use Rattle.lw_litmus.proofs.Common.{guard_holds, is_fence, is_locked, is_store, location_of}
pub use Rattle.lw_litmus.proofs.Common.{needs_empty_buffer, x86_language, x86_operation}
pub use Rattle.lw_litmus.proofs.api.Kinds.{is_store-false_if_locked}
pub use Rattle.lw_litmus.proofs.api.WellScoped.{IsWellScopedThread-well_formed}
pub use Rattle.lw_litmus.specs.declared.instr.Instr.{Instr}
pub use Rattle.lw_litmus.specs.declared.instr.Instr.TheVariants.{Je, Jmp, Jne, Mfence}
pub use Rattle.lw_litmus.specs.declared.operation.Guard.{Guard}
pub use Rattle.lw_litmus.specs.declared.operation.Guard.TheVariants.{Always, Equal, NotEqual, NotZero, Zero}
pub use Rattle.lw_litmus.specs.declared.operation.Operation.{Operation}
pub use Rattle.lw_litmus.specs.declared.operation.Operation.TheVariants.{Branch, Compare, Fence, FetchAdd}
pub use Rattle.lw_litmus.specs.declared.operation.Operation.TheVariants.{Load, Set, Store, Sum}
pub use Rattle.lw_memory.proofs.Common.{Invariant, IsEnabled, IsInRange, IsLawful, Memory, RequestEffect}
pub use Rattle.lw_memory.proofs.Common.{content_after_request, flat_memory, invariant_of, is_held, is_write}
pub use Rattle.lw_memory.proofs.Common.{memory_of, request_result, value_returned, words_after}
pub use Rattle.lw_memory.proofs.Common.{words_invariant, words_lawful}
pub use Rattle.lw_memory.specs.declared.request.Access.{Access}
pub use Rattle.lw_memory.specs.declared.request.Request.{Request}
pub use Rattle.lw_tso.specs.Endings.{CanTerminate, event_count}
pub use Rattle.lw_tso.specs.EventEffects.{EventEffect, Eviction, LocalStep, MemoryAccess, Refused, cpu_of}
pub use Rattle.lw_tso.specs.EventEffects.{drain_effect, event_effect, if_buffer_empty, load_effect}
pub use Rattle.lw_tso.specs.EventEffects.{operation_effect, step_effect}
pub use Rattle.lw_tso.specs.EventRanges.{IsEventInRange}
pub use Rattle.lw_tso.specs.Evictions.{without_evictions}
pub use Rattle.lw_tso.specs.Fencing.{EndsBlock, HasInsertedFences, HasInsertedFencesInCode, IsInserted}
pub use Rattle.lw_tso.specs.Fencing.{MarksAreFences, code_without, retarget_to_blocks, unmarked_count_before}
pub use Rattle.lw_tso.specs.Fencing.{unmarked_instructions}
pub use Rattle.lw_tso.specs.Independence.{AreDrainAndPassing, AreIndependent, CommutesWithDrain}
pub use Rattle.lw_tso.specs.Independence.{DoNotConflict, EventsCommute, IsAtPosition, MayPassOldest}
pub use Rattle.lw_tso.specs.Independence.{TransitionAt, accessed_location, event_writes}
pub use Rattle.lw_tso.specs.LockPhases.{Begun, Drains, Free, HasRead, HasWritten, HeldBy, IsAtLocked}
pub use Rattle.lw_tso.specs.LockPhases.{IsNotBlocked, Lock, Locked, Locks, Phase, PhasedEvent, PhasedRunsTo}
pub use Rattle.lw_tso.specs.LockPhases.{PhasedState, PhasedStep, PhasedTransition, Reads, Steps, Unlocks}
pub use Rattle.lw_tso.specs.LockPhases.{Writes, after_locked_write, locked_by, locked_next, read_value}
pub use Rattle.lw_tso.specs.LockPhases.{unlocked, with_empty_buffer}
pub use Rattle.lw_tso.specs.Machines.{EffectTransition, EventResult, EvictionTransition, MachineState}
pub use Rattle.lw_tso.specs.Machines.{MachineTransition, ProcessorTransition, buffer_of, over_flat_memory}
pub use Rattle.lw_tso.specs.Machines.{position_of}
pub use Rattle.lw_tso.specs.Processors.{Processor, advance_processor, enqueue_store, initial_processor}
pub use Rattle.lw_tso.specs.Processors.{jump_or_advance_processor, newest_buffered, set_register}
pub use Rattle.lw_tso.specs.Processors.{set_zero_flag}
pub use Rattle.lw_tso.specs.Runs.{InitialWords, IsMachineOutcome, MachineRun, MachineRunsTo, ReplaysTo}
pub use Rattle.lw_tso.specs.Runs.{has_terminated, initial_machine_state, is_final, machine_outcome}
pub use Rattle.lw_tso.specs.Starts.{IsInitialMemory}
pub use Rattle.lw_tso.specs.inner.BufferCapacity.{HasRoom, IsReachableMachine, makes_entry, stores_from}
pub use Rattle.lw_tso.specs.inner.Views.{processor_of}
