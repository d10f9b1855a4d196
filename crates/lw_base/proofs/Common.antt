-- What proofs cite of std, of lower crates and of this crate's definitions, passed on from one place. Declares nothing.
pub use Rattle.std.proofs.Common.{All, Bool, Bor, Contains, Err, HoldsAt, IfErr, IfSome, IsErrAnd, IsSome}
pub use Rattle.std.proofs.Common.{List, MatchOption, MatchResult, None, Ok, OnOk, Option, Result, Some}
pub use Rattle.std.proofs.Common.{SomeIff, [], ap, append-nil, append_assoc, ap₂, arith, below_more, bytes_eq}
pub use Rattle.std.proofs.Common.{codes, decimal, drop, drop-cons, eq-eqb, eqb-true, false, filter, flat_map}
pub use Rattle.std.proofs.Common.{get_or, if◌then◌else◌, inl, inr, is_ok, length, length-append, length-set}
pub use Rattle.std.proofs.Common.{map, nat_eq, not, option_copied, option_map, refl, replicate, rules}
pub use Rattle.std.proofs.Common.{slice_get, slice_index_or, slice_set, string_bytes, subst, suc, sym, take}
pub use Rattle.std.proofs.Common.{take-append-drop, take-suc, take_all, true, true≢false, zero, zero-add, zip}
pub use Rattle.std.proofs.Common.{ℕ, ⊎_elim, ◌*◌, ◌++◌, ◌+◌, ◌-◌, ◌<◌, ◌==◌, ◌∙◌, ◌∷◌, ◌≡◌, ◌≢◌, ◌≤◌, ◌⊎◌}
pub use Rattle.std.proofs.Math.Seq.{drop-append_seam}
pub use Rattle.std.proofs.lemmas.Bool.{agree_below_at, and_from, and_parts, cases_Bool, cases_eq, eqb-false}
pub use Rattle.std.proofs.lemmas.Bool.{false_from_ne_true, false≢true, not-false, not-true, or_cases, or_left}
pub use Rattle.std.proofs.lemmas.Bool.{or_right}
pub use Rattle.std.proofs.lemmas.Bool.Decides.{nat_tests}
pub use Rattle.std.proofs.lemmas.Grind.{common_steps}
pub use Rattle.std.proofs.lemmas.List.{drop_all, get_or_read, length-map, length-replicate, map-append}
pub use Rattle.std.proofs.lemmas.List.{set-get_or, take_more}
pub use Rattle.std.proofs.lemmas.List.Elements.{All-from_recursion, Contains-append_right, Contains-get_or}
pub use Rattle.std.proofs.lemmas.List.Elements.{Contains-push_cases}
pub use Rattle.std.proofs.lemmas.List.FromFn.{get_or-range_with_len, length-map-range_with_len}
pub use Rattle.std.proofs.lemmas.List.FromFn.{length-range_with_len}
pub use Rattle.std.proofs.lemmas.Option.{get_or_from_slice_get, same_Some, slice_get-get_or, slice_get-map}
pub use Rattle.std.proofs.lemmas.Option.{slice_get_past, slice_get_read, slice_get_within}
pub use Rattle.std.proofs.lemmas.Str.{IsUtf8-from_ascii}
pub use Rattle.std.specs.Char.{is_ascii_digit, is_ascii_graphic}
pub use Rattle.std.specs.Cmp.{unsigned_Decides}
pub use Rattle.std.specs.Cmp.Lexicographic.{pointwise, pointwise_decides}
pub use Rattle.std.specs.List.{AllByRecursion, list_all, list_any, range_with_len}
pub use Rattle.lw_base.specs.Changes.{apply_change_if_some, changed_word, word_or_zero, wrapping_sum}
pub use Rattle.lw_base.specs.Characters.{DoesNotContain, IsSplitAtFirst, byte, digit, first_byte_is, is_blank}
pub use Rattle.lw_base.specs.Characters.{is_key_byte, is_name_byte, is_space}
pub use Rattle.lw_base.specs.ConditionTexts.{assignment, condition_text, is_binary, is_or, parenthesized}
pub use Rattle.lw_base.specs.ConditionTexts.{parenthesized_if, proposition_text, quantifier_text, site_text}
pub use Rattle.lw_base.specs.FinalWords.{ContainsWordsOf, final_word, final_words}
pub use Rattle.lw_base.specs.Formula.{And, Formula, No, Not, Or, Reg_is, Word_is, Yes, nodes}
pub use Rattle.lw_base.specs.Heads.{TestHead, head_of, set_location_names}
pub use Rattle.lw_base.specs.Languages.{arch_keyword}
pub use Rattle.lw_base.specs.Limits.{most_locations, most_name_bytes, most_nodes, most_rows, most_text_bytes}
pub use Rattle.lw_base.specs.Limits.{most_threads, registers}
pub use Rattle.lw_base.specs.ListedOutcomes.{IsListedOutcome}
pub use Rattle.lw_base.specs.Lists.{IsDuplicateFree}
pub use Rattle.lw_base.specs.Names.{IsName, IsNameShaped, IsNameTable, IsTestName, IsUnreservedName}
pub use Rattle.lw_base.specs.Names.{are_digits, is_numbered_register, is_reserved, keywords, x86_registers}
pub use Rattle.lw_base.specs.NoParse.{HoldsOfNothing, ParsesNothing}
pub use Rattle.lw_base.specs.Outcomes.{FinalState, HasOutcomeShape, final_state_cmp}
pub use Rattle.lw_base.specs.Propositions.{formula_of}
pub use Rattle.lw_base.specs.Registers.{IsRegisterName, lowercase_if_x86, register_name}
pub use Rattle.lw_base.specs.Replays.{HasReplayEnd, RunsTo}
pub use Rattle.lw_base.specs.Schedules.{HasEventParts, HasEventShape, IsCpu, IsEvent, IsFaultyPiece}
pub use Rattle.lw_base.specs.Schedules.{IsSchedule, event_text, event_texts, schedule_text, split_blanks}
pub use Rattle.lw_base.specs.SeenLists.{all_registers, locations, seen_eq, thread_registers}
pub use Rattle.lw_base.specs.Stops.{stop_code, stop_name}
pub use Rattle.lw_base.specs.Tables.{contains_name, insert_name, insert_names, position_of_name}
pub use Rattle.lw_base.specs.Texts.{joined}
pub use Rattle.lw_base.specs.Threads.{operand_value, set_word_if_some, thread_code}
pub use Rattle.lw_base.specs.Types.{Bytes, CellGrid, Cells, NameTable, TokenList}
pub use Rattle.lw_base.specs.WellFormed.{IsAscending, IsRegisterIndex, IsSeenInRange, IsSeenLess}
pub use Rattle.lw_base.specs.WellFormed.{IsWellFormedHead, IsWordNumber, MentionsLocationsBelow, MentionsOnly}
pub use Rattle.lw_base.specs.declared.event.Event.{Event}
pub use Rattle.lw_base.specs.declared.event.Event.TheVariants.{Drain, Evict, Step}
pub use Rattle.lw_base.specs.declared.fault.ScheduleCause.{ScheduleCause}
pub use Rattle.lw_base.specs.declared.fault.ScheduleCause.TheVariants.{Cpu, Memory, Word}
pub use Rattle.lw_base.specs.declared.head.Arch.{Arch}
pub use Rattle.lw_base.specs.declared.head.Arch.TheVariants.{Source, X86}
pub use Rattle.lw_base.specs.declared.head.Seen.{Seen}
pub use Rattle.lw_base.specs.declared.head.Seen.TheVariants.{Location, Register}
pub use Rattle.lw_base.specs.declared.proposition.Prop.{Prop}
pub use Rattle.lw_base.specs.declared.stop.Stop.{Stop}
pub use Rattle.lw_base.specs.inner.Digits.{HasBadDigits}
