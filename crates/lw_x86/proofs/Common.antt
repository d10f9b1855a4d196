-- What proofs cite of std, of lower crates and of this crate's definitions, passed on from one place. Declares nothing.
pub use Rattle.std.proofs.Common.{Bool, Contains, IsUtf8, List, None, OnOk, Option, Result, Some, [], ap}
pub use Rattle.std.proofs.Common.{append-nil, append_assoc, arith, bytes_eq, codes, decimal, drop, eq-eqb}
pub use Rattle.std.proofs.Common.{eqb-true, false, filter, filter_map, flat_map, fold, get_or, if◌then◌else◌}
pub use Rattle.std.proofs.Common.{inl, inr, is_ok, length, length-append, length-take, ltb-false, ltb-true}
pub use Rattle.std.proofs.Common.{map, max, nat_cmp, not, option_map, refl, rules, slice_get, slice_index}
pub use Rattle.std.proofs.Common.{slice_index_or, string_bytes, subst, suc, sym, take, take_all, true, zero}
pub use Rattle.std.proofs.Common.{zero-add, ℕ, ◌&&◌, ◌*◌, ◌++◌, ◌+◌, ◌-◌, ◌<◌, ◌==◌, ◌^◌, ◌||◌, ◌∙◌, ◌∷◌, ◌≡◌}
pub use Rattle.std.proofs.Common.{◌≤◌, ◌⊎◌}
pub use Rattle.std.proofs.lemmas.Bool.{agree_below_at, and_parts, cases_Bool, cases_lt, eqb-false}
pub use Rattle.std.proofs.lemmas.Bool.{false_from_ne_true}
pub use Rattle.std.proofs.lemmas.Bool.Decides.{nat_tests}
pub use Rattle.std.proofs.lemmas.Fmt.{decimal_digit, decimal_injective, decimal_nonempty}
pub use Rattle.std.proofs.lemmas.Grind.{common_steps, flat_map-append}
pub use Rattle.std.proofs.lemmas.List.{length-map, map-append, take_more}
pub use Rattle.std.proofs.lemmas.List.Elements.{All-contains, All-from_recursion, All-get_or}
pub use Rattle.std.proofs.lemmas.List.Elements.{Contains-append_right, filter_agree, filter_map-append}
pub use Rattle.std.proofs.lemmas.List.Elements.{recursion_from_All}
pub use Rattle.std.proofs.lemmas.List.Folds.{list_any_at, list_any_none}
pub use Rattle.std.proofs.lemmas.List.FromFn.{fill_by_all, get_or-map-range_with_len, get_or-range_with_len}
pub use Rattle.std.proofs.lemmas.List.FromFn.{length-map-range_with_len}
pub use Rattle.std.proofs.lemmas.List.Sums.{fold-append}
pub use Rattle.std.proofs.lemmas.Map.Views.{any-filter_same}
pub use Rattle.std.proofs.lemmas.Option.{get_or_from_slice_get, slice_get-get_or, slice_get-map}
pub use Rattle.std.proofs.lemmas.Option.{slice_get_past, slice_get_read, slice_get_within}
pub use Rattle.std.proofs.lemmas.Slice.Eq.{bytes_eq-Decides}
pub use Rattle.std.proofs.lemmas.Str.{IsUtf8-append, IsUtf8-from_ascii}
pub use Rattle.std.specs.List.{AllByRecursion, AllZip, cons_option, list_any, range_with_len}
pub use Rattle.std.specs.Option.{ForSome, option_map_or}
pub use Rattle.std.specs.Ordering.{ord_max}
pub use Rattle.lw_base.proofs.Common.{Bytes, CellGrid, Cells, IsDuplicateFree, IsName, IsNameTable}
pub use Rattle.lw_base.proofs.Common.{IsRegisterIndex, IsSeenInRange, IsUnreservedName, IsWellFormedHead}
pub use Rattle.lw_base.proofs.Common.{IsWordNumber, NameTable, TestHead, TokenList, all_registers, byte}
pub use Rattle.lw_base.proofs.Common.{condition_text, contains_name, first_byte_is, head_of, insert_names}
pub use Rattle.lw_base.proofs.Common.{is_blank, is_name_byte, joined, locations, most_locations}
pub use Rattle.lw_base.proofs.Common.{most_name_bytes, most_nodes, most_text_bytes, most_threads}
pub use Rattle.lw_base.proofs.Common.{register_name, registers, seen_eq, thread_registers}
pub use Rattle.lw_base.proofs.api.Blanks.{name_ascii}
pub use Rattle.lw_base.proofs.api.Elements.{All-map_inv, All-mono, AllByRecursion-append}
pub use Rattle.lw_base.proofs.api.Elements.{AllByRecursion-filter, AllByRecursion-flat_map_range}
pub use Rattle.lw_base.proofs.api.Elements.{AllByRecursion-map, AllByRecursion-map_range}
pub use Rattle.lw_base.proofs.api.Formulas.{MentionsLocationsBelow-if_mentions_only}
pub use Rattle.lw_base.proofs.api.GrowingTables.{insert_names-append}
pub use Rattle.lw_base.proofs.api.Lists.{drop-past_end, slice_get-in_range, take-suc}
pub use Rattle.lw_base.proofs.api.Returns.{Err-clause_propagated}
pub use Rattle.lw_base.proofs.api.SeenMembership.{filter_has_seen-all_seen, has_seen, has_seen-append_left}
pub use Rattle.lw_base.proofs.api.SeenMembership.{has_seen-append_right, has_seen-location, has_seen-register}
pub use Rattle.lw_base.proofs.api.SeenMembership.{length-all_seen, length_le-ascending_seen, length_le-filter}
pub use Rattle.lw_base.proofs.api.SeenMembership.{max_seen_count, seen_eq-sound}
pub use Rattle.lw_base.proofs.api.Tables.{IsInTable, insert_names-again, insert_names-if_in_table}
pub use Rattle.lw_base.proofs.api.Tables.{position_of_name-again}
pub use Rattle.lw_base.proofs.api.Writing.{OnOk-push_str, numbers_written-all, numbers_written-push}
pub use Rattle.lw_base.proofs.api.Writing.{written-append, written-equal_text, written-two_parts}
pub use Rattle.lw_base.proofs.api.Zips.{slice_get-map_inv}
pub use Rattle.lw_base.specs.declared.head.Arch.TheVariants.{X86}
pub use Rattle.lw_base.specs.declared.head.Quant.{Quant}
pub use Rattle.lw_base.specs.declared.head.Quant.TheVariants.{Exists}
pub use Rattle.lw_base.specs.declared.head.Seen.{Seen}
pub use Rattle.lw_base.specs.declared.head.Seen.TheVariants.{Location, Register}
pub use Rattle.lw_base.specs.declared.operand.Operand.{Operand}
pub use Rattle.lw_base.specs.declared.operand.Operand.TheVariants.{Number}
pub use Rattle.lw_litmus.proofs.Common.{IsWellFormedProgram, IsWellFormedStatement, IsWellFormedThread}
pub use Rattle.lw_litmus.proofs.Common.{X86Test, branch_target, location_of, most_instructions, numbers_of}
pub use Rattle.lw_litmus.proofs.Common.{registers_of, test_of, x86_language, x86_operation}
pub use Rattle.lw_litmus.specs.declared.instr.Instr.{Instr}
pub use Rattle.lw_litmus.specs.declared.instr.Instr.TheVariants.{Add, Cmp, Set, Store}
pub use Rattle.lw_text.proofs.Common.{AtomSyntax, Block, HasFewNodes, HasFrame, Header, InitializerSyntax}
pub use Rattle.lw_text.proofs.Common.{IsInitializer, IsProposition, IsSite, Listed, Names, ParsesManyTill}
pub use Rattle.lw_text.proofs.Common.{ParsesQuestion, ParsesTest, Preamble, Row, RowCells, SiteSyntax}
pub use Rattle.lw_text.proofs.Common.{Terminal, TestFrame, TestSyntax, ThreadExists, begins_stop}
pub use Rattle.lw_text.proofs.Common.{begins_token, blank, column, columns, ends_cell, frame_of_syntax}
pub use Rattle.lw_text.proofs.Common.{head_of_syntax, initial_word_of, listed_in, location_table, resolved}
pub use Rattle.lw_text.proofs.Common.{seen_in, site_name, site_names, sites_in, thread_name}
pub use Rattle.lw_text.proofs.api.CellTokens.{EndsNoCell}
pub use Rattle.lw_text.proofs.api.ConditionTokens.{IsPrintable, IsSite-site_tokens, ParsesSepEndBy-tokens}
pub use Rattle.lw_text.proofs.api.ConditionTokens.{Quantified-quantifier_tokens, Terminals-terminal_tokens}
pub use Rattle.lw_text.proofs.api.ConditionTokens.{Value-value_tokens, condition_is_printable, named_claim}
pub use Rattle.lw_text.proofs.api.ConditionTokens.{named_printable, named_site, quantifier_tokens}
pub use Rattle.lw_text.proofs.api.ConditionTokens.{resolved-enclosed_named_terminals, seen_in-named_site}
pub use Rattle.lw_text.proofs.api.ConditionTokens.{site_exists, site_tokens, sites_in_table, sites_printable}
pub use Rattle.lw_text.proofs.api.ConditionTokens.{terminal_tokens, value_tokens}
pub use Rattle.lw_text.proofs.api.Frames.{HasFrame-unique}
pub use Rattle.lw_text.proofs.api.Indices.{is_index}
pub use Rattle.lw_text.proofs.api.PrintedConditions.{HasNoEquals-blank, IsUnreservedName-in_table}
pub use Rattle.lw_text.proofs.api.PrintedConditions.{Spells-colon, Spells-register, assignment_spelled}
pub use Rattle.lw_text.proofs.api.PrintedConditions.{most_assignment_bytes, most_node_bytes}
pub use Rattle.lw_text.proofs.api.PrintedConditions.{most_quantifier_bytes, most_site_bytes}
pub use Rattle.lw_text.proofs.api.PrintedConditions.{quantifier_spelled, register_is_name, site_spelled}
pub use Rattle.lw_text.proofs.api.PrintedConditions.{whole_spelled}
pub use Rattle.lw_text.proofs.api.PrintedPropositions.{enclosed, printed_proposition, terminals_of}
pub use Rattle.lw_text.proofs.api.PropositionNodes.{node_count-resolved, proposition_nodes, resolved_single}
pub use Rattle.lw_text.proofs.api.Spelling.{Anything, EndsName, IsBlankNext, Spells, Spells-append}
pub use Rattle.lw_text.proofs.api.Spelling.{Spells-append_anything, Spells-before, Spells-mono, Spells-name}
pub use Rattle.lw_text.proofs.api.Spelling.{Spells-newline, Spells-nothing, Spells-number, Spells-run}
pub use Rattle.lw_text.proofs.api.Spelling.{Spells-single_symbol, Spells-space, Tokens-Spells}
pub use Rattle.lw_text.proofs.api.Spelling.{blank_ends_name, decimal_is_name_run, decimal_is_number}
pub use Rattle.lw_text.proofs.api.Spelling.{decimal_is_short, is_name_text, most_number_bytes, name_by_test}
pub use Rattle.lw_statements.proofs.Common.{CellSyntax, Column, Filling, Fills, Gives, IsGrammar, IsMade}
pub use Rattle.lw_statements.proofs.Common.{IsSpelling, Labels, LabelsLeadForward, MaybeStatement, ParsesCell}
pub use Rattle.lw_statements.proofs.Common.{ParsesStatement, SlotValue, code_in, label_in, labels_of}
pub use Rattle.lw_statements.proofs.Common.{location_index, name_in, names_in, names_of, resolve_test}
pub use Rattle.lw_statements.proofs.Common.{resolved_statement, resolved_target, statements, target_in}
pub use Rattle.lw_statements.proofs.api.Faults.{CellFaultIsTrue-unique, no_CellFault-if_test}
pub use Rattle.lw_statements.proofs.api.Forms.{IsGrammar-of_spelling, IsUnreservedName-name_of}
pub use Rattle.lw_statements.proofs.api.Greater.{ord_max-is_max}
pub use Rattle.lw_statements.proofs.api.Tests.{test-unique, well_formed_test}
pub use Rattle.lw_statements.specs.declared.slot.Slot.{Slot}
pub use Rattle.lw_statements.specs.declared.slot.Slot.TheVariants.{Keyword, Label, Value}
pub use Rattle.lw_x86.specs.CanonicalTexts.{block_text, canonical_text, cell_text, cells_from, cells_of}
pub use Rattle.lw_x86.specs.CanonicalTexts.{element_text, end_cells, header_text, initial_word}
pub use Rattle.lw_x86.specs.CanonicalTexts.{initializer_text, instruction_text, is_sign, is_target, jumps_to}
pub use Rattle.lw_x86.specs.CanonicalTexts.{label, listed_text, max_cell_count, printed_form}
pub use Rattle.lw_x86.specs.CanonicalTexts.{register_initializer, row_at, row_text, rows_text, slot_text}
pub use Rattle.lw_x86.specs.CanonicalTexts.{slots_text}
pub use Rattle.lw_x86.specs.Grammar.{HasProgram, x86_grammar}
pub use Rattle.lw_x86.specs.Spelling.{instruction, x86_forms, x86_keyword_text, x86_slots, x86_spelling}
pub use Rattle.lw_x86.specs.Texts.{IsTextOf}
pub use Rattle.lw_x86.specs.declared.language.X86Form.{X86Form}
pub use Rattle.lw_x86.specs.declared.language.X86Form.TheVariants.{Compare}
pub use Rattle.lw_x86.specs.declared.language.X86Keyword.{X86Keyword}
pub use Rattle.lw_x86.specs.declared.language.X86Keyword.TheVariants.{Close, Comma, Dollar, Open}
pub use Rattle.lw_x86.specs.inner.OperandTexts.{memory_text, operand_text, with_operands}
pub use Rattle.lw_x86.specs.inner.Operands.{instruction_of_operands}
pub use Rattle.lw_x86.specs.inner.Separators.{separator}
