-- What proofs cite of std, of lower crates and of this crate's definitions, passed on from one place. Declares nothing.
pub use Rattle.std.proofs.Common.{All, Bool, Contains, Err, IfErr, IfOk, IsSome, List, MatchOption, None, Ok}
pub use Rattle.std.proofs.Common.{OnErr, OnOk, Option, Result, Some, SomeIff, Vec, [], ap, append-nil}
pub use Rattle.std.proofs.Common.{append_assoc, ap₂, arith, cond, count_by, drop, drop-cons, eq-eqb, eqb-true}
pub use Rattle.std.proofs.Common.{false, filter, flat_map, get_or, get_or-set_other, get_or-set_same}
pub use Rattle.std.proofs.Common.{if◌then◌else◌, inl, inr, is_none, is_some, length, length-append}
pub use Rattle.std.proofs.Common.{length-set, ltb-false, map, min, mul-le-mul, ne_eqb, not, option_copied}
pub use Rattle.std.proofs.Common.{option_to_list, pow-add, pow_mono, refl, rules, slice_get, slice_index}
pub use Rattle.std.proofs.Common.{slice_set, subst, suc, suc-mul, sum_by, sym, take, true, true≢false, zero}
pub use Rattle.std.proofs.Common.{ℕ, ◌&&◌, ◌*◌, ◌++◌, ◌+◌, ◌-◌, ◌<◌, ◌==◌, ◌^◌, ◌||◌, ◌↔◌, ◌∙◌, ◌∷◌, ◌≡◌, ◌≢◌}
pub use Rattle.std.proofs.Common.{◌≤◌, ◌⊎◌}
pub use Rattle.std.proofs.Math.Bool.{or_comm}
pub use Rattle.std.proofs.Math.Nat.{one-le-pow}
pub use Rattle.std.proofs.Math.Seq.{drop-nil, take-append_seam}
pub use Rattle.std.proofs.lemmas.Bool.{and_parts, cases_Bool, cases_eq, cases_lt, cases_order, cond-false}
pub use Rattle.std.proofs.lemmas.Bool.{cond-true, cond_both}
pub use Rattle.std.proofs.lemmas.Bool.Decides.{nat_tests}
pub use Rattle.std.proofs.lemmas.Grind.{common_steps, flat_map-append}
pub use Rattle.std.proofs.lemmas.List.{drop_all, drop_more, get_or-replicate, get_or_default, get_or_past}
pub use Rattle.std.proofs.lemmas.List.{length-map, map-append, nil_from_length}
pub use Rattle.std.proofs.lemmas.List.Elements.{All-append, All-cons, All-contains, All-filter, All-get_or}
pub use Rattle.std.proofs.lemmas.List.Elements.{All-head, All-map, All-nil, All-tail, All-weaker}
pub use Rattle.std.proofs.lemmas.List.Elements.{Contains-append_cases, Contains-append_left}
pub use Rattle.std.proofs.lemmas.List.Elements.{Contains-append_right, filter-append, filter_agree}
pub use Rattle.std.proofs.lemmas.List.Elements.{filter_passes}
pub use Rattle.std.proofs.lemmas.List.Folds.{flat_map-map}
pub use Rattle.std.proofs.lemmas.List.Sums.{AllPass-from_list_all, sum_by-cons, sum_by-take-drop}
pub use Rattle.std.proofs.lemmas.Option.{get_or_from_slice_get, none-some, same_Some, slice_get-get_or}
pub use Rattle.std.proofs.lemmas.Option.{slice_get_past, slice_get_read, slice_get_within}
pub use Rattle.std.proofs.lemmas.Result.{IfErr-weaker, IfOk-from_err, err_from_is_err_and, on_ok_weaker}
pub use Rattle.std.proofs.lemmas.Simd.{map-map}
pub use Rattle.std.specs.Option.{option_map_or}
pub use Rattle.lw_base.proofs.Common.{IsDuplicateFree, most_threads, thread_code}
pub use Rattle.lw_base.proofs.api.Lists.{cons-head_eq, drop-past_end, slice_get-in_range}
pub use Rattle.lw_litmus.proofs.Common.{IsFlowPathFrom, IsFlowSuccessor, IsWellFormedSource}
pub use Rattle.lw_litmus.proofs.Common.{IsWellFormedThread, IsWellScoped, IsWellScopedThread, Language}
pub use Rattle.lw_litmus.proofs.Common.{SourceTest, Test, branch_target, falls_through, is_same_location}
pub use Rattle.lw_litmus.proofs.Common.{location_of, most_instructions, most_statements, source_language}
pub use Rattle.lw_litmus.specs.declared.operation.Operation.{Operation}
pub use Rattle.lw_litmus.specs.declared.operation.Operation.TheVariants.{Branch}
pub use Rattle.lw_orders.proofs.Common.{AreAscending, AreSorted, Before, Constraints, IsLinearExtension}
pub use Rattle.lw_orders.proofs.Common.{IsOrderedByPath, IsWellFormed, Respects, indices, is_ordered}
pub use Rattle.lw_orders.proofs.Common.{most_items, most_orders, most_unordered, orientation_count}
pub use Rattle.lw_orders.proofs.api.Closure.{IsOrderedByPath-along, Leads, Leads-trans, LeadsAlong-refl}
pub use Rattle.lw_orders.proofs.api.Closure.{orientation_count-same_closure}
pub use Rattle.lw_orders.proofs.api.Complete.{All-parts}
pub use Rattle.lw_orders.proofs.api.UnorderedPairs.{HasOrientationCount-computed, HasOrientationCount-unique}
pub use Rattle.lw_paths.specs.AssignmentLists.{next_and_target, path_assignments, paths_from, paths_of}
pub use Rattle.lw_paths.specs.AssignmentLists.{paths_through, successor_list, successors}
pub use Rattle.lw_paths.specs.Counts.{HasOrderCount, HasTooManyItems, HaveOrderCounts, IsTotalOrderCount}
pub use Rattle.lw_paths.specs.Counts.{IsWithinLimits, IsWithinOrderLimit, LimitFaultIsTrue}
pub use Rattle.lw_paths.specs.Counts.{items_of_assignment}
pub use Rattle.lw_paths.specs.Items.{conflict_by, constraints_of, drained_location, is_drained, is_preserved}
pub use Rattle.lw_paths.specs.Items.{item_at, items_at, items_conflict, items_from, items_of, location_by}
pub use Rattle.lw_paths.specs.Items.{needs_earlier_drains, pairs_from, path_items}
pub use Rattle.lw_paths.specs.Items.{statement_needs_empty_buffer, statement_of, writes_by}
pub use Rattle.lw_paths.specs.PathAssignments.{IsPathAssignment, JumpsForward}
pub use Rattle.lw_paths.specs.ReducedPairs.{edge_from, last_of_thread, none_before, record_last, reduced_at}
pub use Rattle.lw_paths.specs.ReducedPairs.{reduced_constraints_of, reduced_from}
pub use Rattle.lw_paths.specs.Totals.{LimitFaultOfAssignment, LimitFaultOfAssignments, LimitFaultOfOrders}
pub use Rattle.lw_paths.specs.Totals.{orders_of, orders_of_assignment, total_of}
pub use Rattle.lw_paths.specs.Views.{assignment_of, path_of}
pub use Rattle.lw_paths.specs.Visits.{CanExtendPath, IsVisitable, VisitFails, VisitsAll, assignments_along}
pub use Rattle.lw_paths.specs.Visits.{paths_at}
pub use Rattle.lw_paths.specs.declared.conflicts.Access.{Access}
pub use Rattle.lw_paths.specs.declared.count.Counter.{Counter}
pub use Rattle.lw_paths.specs.declared.fault.ListFault.{ListFault}
pub use Rattle.lw_paths.specs.declared.fault.ListFault.TheVariants.{Memory, TooManyItems, TooManyOrders}
pub use Rattle.lw_paths.specs.declared.item.Item.{Item}
pub use Rattle.lw_paths.specs.declared.item.LastItems.{LastItems}
pub use Rattle.lw_paths.specs.inner.Accesses.{access_by, accesses_from, conflicts_among, conflicts_with}
pub use Rattle.lw_paths.specs.inner.Accesses.{is_conflict}
pub use Rattle.lw_paths.specs.inner.Few.{branches, code_has_no_access, has_no_access}
pub use Rattle.lw_paths.specs.inner.Sizes.{IsMost, path_size, statement_size}
pub use Rattle.lw_paths.specs.inner.Visiting.{VisitResult}
