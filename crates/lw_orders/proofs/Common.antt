-- What proofs cite of std, of lower crates and of this crate's definitions, passed on from one place. Declares nothing.
pub use Rattle.std.proofs.Common.{All, Bool, Contains, Decides, List, None, Option, Some, [], ap, append-nil}
pub use Rattle.std.proofs.Common.{append_assoc, arith, bit_and, bit_or, cond, drop, eq-eqb, eqb, eqb-true}
pub use Rattle.std.proofs.Common.{false, filter, filter_map, find, get_or, get_or-set_other, get_or-set_same}
pub use Rattle.std.proofs.Common.{get_or-take, inl, inr, le-ltb, length, length-append, length-set}
pub use Rattle.std.proofs.Common.{length-take, length-take-le, lt-ltb, ltb, map, min, ne_eqb, not}
pub use Rattle.std.proofs.Common.{option_and_then, option_map, pow_mono, pow_pos, refl, replicate, set}
pub use Rattle.std.proofs.Common.{slice_index, slice_index_or, slice_set, subst, suc, sym, take, take-take}
pub use Rattle.std.proofs.Common.{take_all, true, unwrap_or, w64, zero, ℕ, ◌%◌, ◌&&◌, ◌*◌, ◌++◌, ◌+◌, ◌-◌}
pub use Rattle.std.proofs.Common.{◌<◌, ◌^◌, ◌||◌, ◌↔◌, ◌∙◌, ◌∷◌, ◌≡◌, ◌≢◌, ◌≤◌, ◌⊎◌}
pub use Rattle.std.proofs.Math.Pow.{pow-lt}
pub use Rattle.std.proofs.lemmas.Bool.{and_from, and_parts, and_right, both_ways, cases_Bool, cases_eq}
pub use Rattle.std.proofs.lemmas.Bool.{cases_lt, cases_order, cond-false, cond-true, eqb-false}
pub use Rattle.std.proofs.lemmas.Bool.{false_from_ne_true, not-false, or_cases, or_left, or_right}
pub use Rattle.std.proofs.lemmas.Bool.Decides.{nat_tests, same_from_decides}
pub use Rattle.std.proofs.lemmas.Grind.{common_steps}
pub use Rattle.std.proofs.lemmas.Iterator.Adapters.{option_map_id}
pub use Rattle.std.proofs.lemmas.List.{drop_all, drop_more, get_or-replicate, get_or_append_left, get_or_past}
pub use Rattle.std.proofs.lemmas.List.{get_or_read, length-replicate, nil_from_length, take-set, take-set-le}
pub use Rattle.std.proofs.lemmas.List.{take_more, take_more_set, with_items_is}
pub use Rattle.std.proofs.lemmas.List.Elements.{All-append, All-cons, All-contains, All-contains_itself}
pub use Rattle.std.proofs.lemmas.List.Elements.{All-drop, All-filter, All-head, All-nil, All-push, All-tail}
pub use Rattle.std.proofs.lemmas.List.Elements.{All-weaker, Contains-append_cases, Contains-append_left}
pub use Rattle.std.proofs.lemmas.List.Elements.{Contains-get_or, Contains-push, Contains-push_cases}
pub use Rattle.std.proofs.lemmas.List.Elements.{filter_agree, filter_map-append, filter_passes}
pub use Rattle.std.proofs.lemmas.List.Folds.{Any-from_list_any, list_any-append, list_any_at, list_any_more}
pub use Rattle.std.proofs.lemmas.List.Sums.{AllPass-from_list_all, list_all-from_AllPass}
pub use Rattle.std.proofs.lemmas.Nat.{one_shl, or_lt, pow_below}
pub use Rattle.std.proofs.lemmas.Nat.Bits.{and_pow, bit_at-lt, bit_at-pow_other, bit_at-pow_same}
pub use Rattle.std.proofs.lemmas.Nat.Bits.{bit_at-trailing_zeros, bit_at-zero, bit_at_above, bit_at_and}
pub use Rattle.std.proofs.lemmas.Nat.Bits.{bit_at_not, bit_at_ones, bit_at_ones_above, bit_at_or}
pub use Rattle.std.proofs.lemmas.Nat.Bits.{same_from_bits}
pub use Rattle.std.proofs.lemmas.Option.{option_and_then_some}
pub use Rattle.std.proofs.lemmas.Result.{IfOk-from_err}
pub use Rattle.std.specs.Int.{Width, bit_at, trailing_zeros, w128}
pub use Rattle.std.specs.Int.Bits.{mask_lt}
pub use Rattle.std.specs.Int.Count.{trailing_of_zero}
pub use Rattle.std.specs.List.{cons_option, list_any}
pub use Rattle.std.specs.Vec.{with_items}
pub use mir.Val.{bits}
pub use Rattle.lw_orders.specs.Limits.{most_items, most_orders, most_unordered}
pub use Rattle.lw_orders.specs.Order.{AreAscending, AreDistinct, AreSorted, AreTraceEquivalent}
pub use Rattle.lw_orders.specs.Order.{AreUnorderedConflicts, Before, Constraints, ExactlyOne}
pub use Rattle.lw_orders.specs.Order.{HasOrientationCount, IsLexicographicallyLess, IsLinearExtension}
pub use Rattle.lw_orders.specs.Order.{IsOrder, IsOrderedByPath, IsWellFormed, OrderAgreesOn, Respects, Walk}
pub use Rattle.lw_orders.specs.Order.{index_in}
pub use Rattle.lw_orders.specs.Orientations.{is_ordered, orientation_count, reaches_within}
pub use Rattle.lw_orders.specs.Orientations.{unordered_conflicts}
pub use Rattle.lw_orders.specs.Progress.{Progress}
pub use Rattle.lw_orders.specs.Sequence.{AreInRange, greedy_order, indices, is_minimal, lowest_order, orders}
pub use Rattle.lw_orders.specs.Sequence.{orientations, without}
pub use Rattle.lw_orders.specs.Swaps.{AreConnected, AreConnectedBySwaps, AreDependent, IsAdjacentSwap}
pub use Rattle.lw_orders.specs.Swaps.{IsSwapInvariant}
pub use Rattle.lw_orders.specs.inner.Candidates.{IsBlocked, IsFound, Narrowed}
pub use Rattle.lw_orders.specs.inner.Closure.{AreGraphTables, IsAcyclicClosure, IsReachedFrom}
pub use Rattle.lw_orders.specs.inner.Closure.{IsTransitiveBelow, Reaches}
pub use Rattle.lw_orders.specs.inner.Remaining.{CanBeSearched, HasSearchTables, IsSearchState, calls_left}
pub use Rattle.lw_orders.specs.inner.Remaining.{most_of_call, most_tries, reach, remaining_orders}
pub use Rattle.lw_orders.specs.inner.Search.{ReversesLast, SearchState, after_reversals, from_reversals}
pub use Rattle.lw_orders.specs.inner.Search.{oriented, reverse_if, search_from, search_on}
pub use Rattle.lw_orders.specs.inner.Sets.{AreNeighbours, ArePredecessors, EdgesAreIn, are_disjoint, has}
pub use Rattle.lw_orders.specs.inner.Sets.{has_edge, reaches_in}
pub use Rattle.lw_orders.specs.inner.TriedOrientations.{IsChosen, TriedAs, TriesOrientation, pair_at}
