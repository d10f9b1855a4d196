-- What proofs cite of std, of lower crates and of this crate's definitions, passed on from one place. Declares nothing.
pub use Rattle.std.proofs.Common.{All, AllPairs, Bool, Contains, Equal, Greater, IsPermutation, IsSorted}
pub use Rattle.std.proofs.Common.{Less, List, Ordering, Some, [], ap, append-nil, append_assoc, arith, codes}
pub use Rattle.std.proofs.Common.{cond, decimal, drop, eqb-true, false, filter, flat_map, get_or, get_or-take}
pub use Rattle.std.proofs.Common.{inl, inr, is_lt, length, length-take, lt-ltb, map, min, nat_cmp, nat_eq}
pub use Rattle.std.proofs.Common.{not, refl, rules, slice_get, slice_index, slice_index_or, string_bytes}
pub use Rattle.std.proofs.Common.{subst, suc, sym, take, take_all, true, true≢false, zero, zero-add, zip, ℕ}
pub use Rattle.std.proofs.Common.{◌&&◌, ◌++◌, ◌+◌, ◌-◌, ◌<◌, ◌==◌, ◌||◌, ◌↔◌, ◌∙◌, ◌∷◌, ◌≡◌, ◌≤◌, ◌⊎◌}
pub use Rattle.std.proofs.Math.Nat.{min-le_left, min-le_right}
pub use Rattle.std.proofs.lemmas.Bool.{cases_Bool, cases_lt, not-true, or_cases, or_right}
pub use Rattle.std.proofs.lemmas.Cmp.{nat_cmp_total, nat_list_cmp_total, on_total, then_total, tied_itself}
pub use Rattle.std.proofs.lemmas.Fmt.{decimal_digit}
pub use Rattle.std.proofs.lemmas.Fn.{dedup_same}
pub use Rattle.std.proofs.lemmas.Grind.{get_or_default_zero}
pub use Rattle.std.proofs.lemmas.List.{get_or-map, length-map, map-append, take_more}
pub use Rattle.std.proofs.lemmas.List.Elements.{All-cons, All-contains, All-from_recursion, All-get_or}
pub use Rattle.std.proofs.lemmas.List.Elements.{All-head, All-nil, All-push, All-same, All-tail, All-weaker}
pub use Rattle.std.proofs.lemmas.List.Elements.{Contains-append_left, Contains-get_or, Contains-push}
pub use Rattle.std.proofs.lemmas.List.Elements.{filter-append}
pub use Rattle.std.proofs.lemmas.List.Filters.{length-filter_both, length-filter_more}
pub use Rattle.std.proofs.lemmas.List.FromFn.{get_or-range_with_len, map-range_with_len_more}
pub use Rattle.std.proofs.lemmas.List.Kept.{AllPairs-cons, Any-dedup, Contains-from_dedup}
pub use Rattle.std.proofs.lemmas.List.Kept.{IsStrictlySortedBy-dedup}
pub use Rattle.std.proofs.lemmas.List.Sorted.{All-permutation, Contains-permutation, ranks_by, sorted_far}
pub use Rattle.std.proofs.lemmas.Map.Entries.{length-keys_of}
pub use Rattle.std.proofs.lemmas.Map.Lookups.{exact_bytes}
pub use Rattle.std.proofs.lemmas.Map.Text.{is_eq-slice_cmp}
pub use Rattle.std.proofs.lemmas.Option.{get_or_from_slice_get, same_Some, slice_get-get_or, slice_get_within}
pub use Rattle.std.proofs.lemmas.Slice.Zip.{get_or-zip, length-zip}
pub use Rattle.std.specs.Cmp.{IsTotalOrder, bool_cmp_total}
pub use Rattle.std.specs.Cmp.Lexicographic.{on_texts_equal, other_text, same_text, slice_cmp}
pub use Rattle.std.specs.Int.{from_bool}
pub use Rattle.std.specs.List.{AllByRecursion, dedup, dedup_from, range_with_len}
pub use Rattle.std.specs.Ordering.{ordering_reverse, ordering_then}
pub use lib.Pointwise.{pointwise}
pub use Rattle.lw_base.proofs.Common.{And, Bytes, FinalState, Formula, HasOutcomeShape, IsEvent}
pub use Rattle.lw_base.proofs.Common.{IsSeenInRange, MentionsOnly, NameTable, Not, Or, Reg_is, TestHead}
pub use Rattle.lw_base.proofs.Common.{Word_is, all_registers, condition_text, final_word, formula_of, head_of}
pub use Rattle.lw_base.proofs.Common.{joined, locations, most_locations, most_threads, register_name}
pub use Rattle.lw_base.proofs.Common.{schedule_text, seen_eq, thread_registers}
pub use Rattle.lw_base.proofs.api.Elements.{AllByRecursion-filter}
pub use Rattle.lw_base.proofs.api.Members.{Contains-cons, Contains-head, Contains-tail, not-Contains-nil}
pub use Rattle.lw_base.proofs.api.SeenLists.{IsSeenInRange-all_seen}
pub use Rattle.lw_base.proofs.api.SeenMembership.{has_seen, has_seen-append_left, has_seen-append_right}
pub use Rattle.lw_base.proofs.api.SeenMembership.{has_seen-location, has_seen-register, seen_eq-refl}
pub use Rattle.lw_base.proofs.api.SeenMembership.{seen_eq-sound}
pub use Rattle.lw_base.proofs.api.Writing.{OnOk-push_str, items_written-all, items_written-push}
pub use Rattle.lw_base.proofs.api.Writing.{written-append, written-equal_text, written-two_parts}
pub use Rattle.lw_base.specs.declared.event.Event.{Event}
pub use Rattle.lw_base.specs.declared.head.Quant.TheVariants.{Exists, Forall, NotExists}
pub use Rattle.lw_base.specs.declared.head.Seen.{Seen}
pub use Rattle.lw_base.specs.declared.head.Seen.TheVariants.{Location, Register}
pub use Rattle.lw_outcome_map.specs.Listings.{OutcomeEntries, OutcomesWith, outcomes_of, schedules_of}
pub use Rattle.lw_report.specs.Judgement.{OkMeans, negative, positive, verdict_of}
pub use Rattle.lw_report.specs.Observed.{is_named, is_observed, observed, observed_words}
pub use Rattle.lw_report.specs.Reports.{IsMarkedList, IsReport, IsScheduleList, claim_line, count_line}
pub use Rattle.lw_report.specs.Reports.{judgement_lines, kind_text, mark_text, marked_line, marked_list_text}
pub use Rattle.lw_report.specs.Reports.{observation_line, observation_text, report_text, schedule_list_text}
pub use Rattle.lw_report.specs.Reports.{scheduled, scheduled_lines, state_line, title_line, verdict_text}
pub use Rattle.lw_report.specs.Reports.{word_text}
pub use Rattle.lw_report.specs.States.{AreListedStates, AreStatesOf, IsFirstWithWords, IsSmallestOf}
pub use Rattle.lw_report.specs.States.{ListedState, ProjectedState, project_state, projection_of}
pub use Rattle.lw_report.specs.Truth.{is_true}
pub use Rattle.lw_report.specs.declared.judgement.Claim.{Claim}
pub use Rattle.lw_report.specs.declared.judgement.Claim.TheVariants.{Exact}
pub use Rattle.lw_report.specs.inner.Labels.{gap, label, labelled_word, labelled_words, labels, schedule_line}
pub use Rattle.lw_report.specs.inner.UnsortedStates.{AreFirstStates, AreStatesOfFirst, Shows, state_at}
pub use Rattle.lw_report.specs.inner.UnsortedStates.{state_cmp}
