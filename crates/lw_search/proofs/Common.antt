-- What proofs cite of std, of lower crates and of this crate's definitions, passed on from one place. Declares nothing.
pub use Rattle.std.proofs.Common.{All, Bool, Contains, Decides, IsPermutation, IsTrue, List, None, Ok, Option}
pub use Rattle.std.proofs.Common.{Some, [], ap, append-nil, append_assoc, ap₂, arith, bit_and, bit_or, drop}
pub use Rattle.std.proofs.Common.{eq-eqb, eqb-true, false, get_or, get_or-set_other, get_or-set_same}
pub use Rattle.std.proofs.Common.{if◌then◌else◌, inl, inr, leb-true, length, length-append, length-set}
pub use Rattle.std.proofs.Common.{length-take-le, lt-ltb, map, nat_eq, nat_le, nat_lt, not, option_copied}
pub use Rattle.std.proofs.Common.{option_map, option_to_list, position, pow_pos, refl, set-set, slice_get}
pub use Rattle.std.proofs.Common.{slice_index, slice_index_or, slice_set, subst, suc, sym, take, true}
pub use Rattle.std.proofs.Common.{true≢false, w32, zero, ℕ, ⊎_elim, ◌%◌, ◌&&◌, ◌*◌, ◌++◌, ◌+◌, ◌<◌, ◌==◌, ◌^◌}
pub use Rattle.std.proofs.Common.{◌||◌, ◌↔◌, ◌∙◌, ◌∷◌, ◌≡◌, ◌≢◌, ◌≤◌, ◌⊎◌}
pub use Rattle.std.proofs.Math.Nat.{le-max_left, le-max_right}
pub use Rattle.std.proofs.lemmas.Bool.{and_parts, cases_eq, cases_lt}
pub use Rattle.std.proofs.lemmas.List.{get_or_past, length-map, map-append, take_more}
pub use Rattle.std.proofs.lemmas.List.Elements.{All-cons, All-contains, All-map, All-nil, All-push}
pub use Rattle.std.proofs.lemmas.List.Elements.{All-weaker, Contains-append_left, Contains-get_or}
pub use Rattle.std.proofs.lemmas.List.Elements.{Contains-push}
pub use Rattle.std.proofs.lemmas.List.Quantifiers.{position-Some}
pub use Rattle.std.proofs.lemmas.List.Sorted.{All-permutation}
pub use Rattle.std.proofs.lemmas.Nat.{one_shl}
pub use Rattle.std.proofs.lemmas.Nat.Bits.{and_pow, bit_at-lt, bit_at_or, bit_at_set_other, bit_at_set_same}
pub use Rattle.std.proofs.lemmas.Option.{get_or_from_slice_get, same_Some, slice_get-get_or, slice_get-map}
pub use Rattle.std.proofs.lemmas.Option.{slice_get_past, slice_get_read, slice_get_within}
pub use Rattle.std.proofs.lemmas.Result.{IfOk-weaker, err_from_is_err_and, on_ok_weaker}
pub use Rattle.std.specs.Cmp.{booleans_Decides, first_so, second_so, unsigned_Decides}
pub use Rattle.std.specs.Cmp.Lexicographic.{pointwise, pointwise_decides}
pub use Rattle.std.specs.Int.{bit_at}
pub use Rattle.std.specs.List.{list_any}
pub use Rattle.std.specs.Option.{option_or}
pub use mathlib.Core.Bool.{beq}
pub use Rattle.lw_base.proofs.Common.{ContainsWordsOf, FinalState, HasOutcomeShape, IsDuplicateFree}
pub use Rattle.lw_base.proofs.Common.{IsListedOutcome, final_word, final_words, most_locations, thread_code}
pub use Rattle.lw_base.proofs.api.Lists.{set-get_same, slice_get-append_cases, slice_get-append_middle}
pub use Rattle.lw_base.proofs.api.Lists.{slice_get-in_range, slice_get-slice_set_other}
pub use Rattle.lw_base.proofs.api.Lists.{slice_get-slice_set_same, take-suc}
pub use Rattle.lw_base.proofs.api.Members.{Contains-cons, Contains-head, Contains-tail, not-Contains-nil}
pub use Rattle.lw_base.proofs.api.Replays.{RunsTo-append}
pub use Rattle.lw_base.proofs.api.Zips.{list_all_zip-at_index, list_all_zip-of_each, slice_get-map_inv}
pub use Rattle.lw_base.specs.declared.event.Event.{Event}
pub use Rattle.lw_base.specs.declared.event.Event.TheVariants.{Drain, Evict, Step}
pub use Rattle.lw_base.specs.declared.head.Seen.{Seen}
pub use Rattle.lw_base.specs.declared.head.Seen.TheVariants.{Register}
pub use Rattle.lw_base.specs.declared.stop.Stop.{Stop}
pub use Rattle.lw_base.specs.declared.stop.Stop.TheVariants.{BufferEmpty, Ended, FenceWaits, NoLocation}
pub use Rattle.lw_base.specs.declared.stop.Stop.TheVariants.{SwapWaits}
pub use Rattle.lw_litmus.proofs.Common.{IsWellFormedProgram, IsWellFormedThread, X86Test, is_locked, is_store}
pub use Rattle.lw_litmus.proofs.Common.{location_of, program_of, writes, x86_language, x86_operation}
pub use Rattle.lw_litmus.proofs.api.WellScoped.{IsWellScoped-well_formed}
pub use Rattle.lw_litmus.specs.declared.instr.Instr.{Instr}
pub use Rattle.lw_litmus.specs.declared.operation.Operation.{Operation}
pub use Rattle.lw_litmus.specs.declared.operation.Operation.TheVariants.{Branch, Compare, FetchAdd, Load, Set}
pub use Rattle.lw_litmus.specs.declared.operation.Operation.TheVariants.{Store, Sum, Swap}
pub use Rattle.lw_memory.proofs.Common.{flat_memory}
pub use Rattle.lw_mesi.specs.declared.protocol.Protocol.{Protocol}
pub use Rattle.lw_mesi.specs.declared.protocol.Protocol.TheVariants.{Mesi}
pub use Rattle.lw_tso.proofs.Common.{AreIndependent, DoNotConflict, EventEffect, Eviction, IsAtPosition}
pub use Rattle.lw_tso.proofs.Common.{IsMachineOutcome, LocalStep, MachineRunsTo, MachineTransition}
pub use Rattle.lw_tso.proofs.Common.{MemoryAccess, Processor, Refused, ReplaysTo, TransitionAt}
pub use Rattle.lw_tso.proofs.Common.{accessed_location, cpu_of, drain_effect, event_effect, event_writes}
pub use Rattle.lw_tso.proofs.Common.{has_terminated, if_buffer_empty, initial_machine_state}
pub use Rattle.lw_tso.proofs.Common.{initial_processor, is_final, load_effect, machine_outcome}
pub use Rattle.lw_tso.proofs.Common.{newest_buffered, operation_effect, step_effect, without_evictions}
pub use Rattle.lw_tso.proofs.api.Effects.{EffectLeadsTo, EffectLeadsTo-if_done, EventOccurrence}
pub use Rattle.lw_tso.proofs.api.Effects.{EventOccurrence-of_event, MachineTransition-deterministic}
pub use Rattle.lw_tso.proofs.api.Effects.{MachineTransition-of_effect, not-EffectLeadsTo-evict_event, state}
pub use Rattle.lw_tso.proofs.api.Neighbours.{EventsCommute-independent, position_of-in_range}
pub use Rattle.lw_tso.proofs.api.Operations.{Buffers, OperationTransition, OperationTransition-of_effect}
pub use Rattle.lw_tso.proofs.api.Operations.{accessed_location-of_operation}
pub use Rattle.lw_outcome_map.proofs.api.Listings.{Contains-entry_of_outcome, Contains-permuted_outcomes}
pub use Rattle.lw_outcome_map.specs.Listings.{OutcomeEntries, OutcomesWith, outcomes_of}
pub use Rattle.lw_tso_caches.proofs.api.CompleteLists.{HasOutcomeShape-of_compiled, IsListedOutcome-of_source}
pub use Rattle.lw_tso_caches.proofs.api.CompleteLists.{ListsMachine-of_complete, without_evictions-flat_run}
pub use Rattle.lw_tso_caches.specs.CompleteLists.{IsComplete}
pub use Rattle.lw_tso_caches.specs.OverCaches.{OutcomeOverCaches, ReplaysToOverCaches}
pub use Rattle.lw_search.specs.Reachability.{AreReachable, ExceedsBudget, IsReachable, Visits}
pub use Rattle.lw_search.specs.declared.accesses.Outlook.{Outlook}
pub use Rattle.lw_search.specs.declared.accesses.Outlooks.{Outlooks}
pub use Rattle.lw_search.specs.declared.fault.SearchFault.{SearchFault}
pub use Rattle.lw_search.specs.declared.states.Origin.{Origin}
pub use Rattle.lw_search.specs.declared.transitions.Successor.{Successor}
pub use Rattle.lw_search.specs.declared.transitions.Transition.{Transition}
pub use Rattle.lw_search.specs.inner.Accesses.{AvoidsConflicts, DescribeRows, DescribeState, DescribeThread}
pub use Rattle.lw_search.specs.inner.Accesses.{HasConflictsBetween, HasConflictsOf, HasConflictsOfOthers}
pub use Rattle.lw_search.specs.inner.Accesses.{Lacks, access_bit}
pub use Rattle.lw_search.specs.inner.Invariant.{AreSame, CollectsAll, CollectsState, ContainsAgreeing, Covers}
pub use Rattle.lw_search.specs.inner.Invariant.{CoversThread, ExpandsState, ExpandsUpTo, Expansion}
pub use Rattle.lw_search.specs.inner.Invariant.{HasPredecessor, HaveSameWords, IsCovered, IsFinished}
pub use Rattle.lw_search.specs.inner.Invariant.{IsLoaded, IsOfSomeRun, IsScheduleOf, IsStarted, IsWorking}
pub use Rattle.lw_search.specs.inner.Invariant.{LeadsTo, ListsAgreeing, ReachesIndex, ReportsThreadEnd}
pub use Rattle.lw_search.specs.inner.Invariant.{SearchInvariant, Settled, Settles, SettlesFrom, events_at}
pub use Rattle.lw_search.specs.inner.InvisibleEvents.{IsForward, IsInvisible, IsUncontended, NeverConflicts}
pub use Rattle.lw_search.specs.inner.InvisibleEvents.{drain_access, event_access, operation_access}
pub use Rattle.lw_search.specs.inner.InvisibleEvents.{step_access}
pub use Rattle.lw_search.specs.inner.ObservedStates.{AreObserved, InsertsObserved, InsertsWords}
pub use Rattle.lw_search.specs.inner.ObservedStates.{ObservedWords, ObservesState}
pub use Rattle.lw_search.specs.inner.StateKeys.{AppendsOrigin, Components, Extends, FoundStates}
pub use Rattle.lw_search.specs.inner.StateKeys.{HasUniqueIndices, InsertsKey, IsPrefix, Represents}
pub use Rattle.lw_search.specs.inner.StateKeys.{RepresentsOthers, RepresentsThreads, State, event_of}
pub use Rattle.lw_search.specs.inner.StateKeys.{events_of, set_thread}
pub use Rattle.lw_search.specs.inner.ThreadStates.{ActResult}
pub use Rattle.lw_search.specs.inner.Transitions.{AppendsRows, AreTransitions, CopiesRow, IsNeverEnabled}
pub use Rattle.lw_search.specs.inner.Transitions.{IsTransition}
