-- What proofs cite of std, of lower crates and of this crate's definitions, passed on from one place. Declares nothing.
pub use Rattle.std.proofs.Common.{All, Bool, Err, IfNone, IfSome, IsAscii, IsErrAnd, IsUtf8, List}
pub use Rattle.std.proofs.Common.{MatchOption, MatchResult, None, Ok, Option, Result, Some, [], add-one, ap}
pub use Rattle.std.proofs.Common.{append-nil, append_assoc, arith, bytes_eq, codes, decimal, drop, drop-cons}
pub use Rattle.std.proofs.Common.{eqb-true, false, filter, flat_map, fold, get_or, get_or-take, if◌then◌else◌}
pub use Rattle.std.proofs.Common.{inl, inr, is_some, length, length-append, length-drop, length-take}
pub use Rattle.std.proofs.Common.{ltb-false, ltb-true, map, map-id, mul-le-mul_left, mul_comm, nat_lt, ne_eqb}
pub use Rattle.std.proofs.Common.{not, option_and_then, option_map, refl, reverse, rules, set, slice_get}
pub use Rattle.std.proofs.Common.{slice_index_or, sub-one, subst, suc, sym, take, take_all, take_at, true}
pub use Rattle.std.proofs.Common.{true≢false, zero, zero-add, zip, ℕ, ◌&&◌, ◌*◌, ◌++◌, ◌+◌, ◌-◌, ◌<◌, ◌==◌}
pub use Rattle.std.proofs.Common.{◌^◌, ◌||◌, ◌∙◌, ◌∷◌, ◌≡◌, ◌≢◌, ◌≤◌, ◌⊎◌}
pub use Rattle.std.proofs.Math.ListN.{get_or-append}
pub use Rattle.std.proofs.Math.Path.{fun_ext}
pub use Rattle.std.proofs.Math.Seq.{drop-append_seam, get_or-append_seam, set-append_seam, take-append_seam}
pub use Rattle.std.proofs.lemmas.Bool.{and_parts, cases_Bool, eqb-false, false_from_ne_true, false≢true}
pub use Rattle.std.proofs.lemmas.Bool.{not-false, not-true, or_cases, or_parts}
pub use Rattle.std.proofs.lemmas.Bool.Decides.{nat_tests}
pub use Rattle.std.proofs.lemmas.Fmt.{decimal_is_IsNumeral, decimal_nonempty, length-decimal-le}
pub use Rattle.std.proofs.lemmas.Grind.{flat_map-append}
pub use Rattle.std.proofs.lemmas.List.{append_cancel_left, drop_all, length-map, length-reverse, map-append}
pub use Rattle.std.proofs.lemmas.List.{map_push, nil_from_length, reverse-append}
pub use Rattle.std.proofs.lemmas.List.Elements.{All-from_recursion, All-nil, filter-append, filter_map-append}
pub use Rattle.std.proofs.lemmas.List.Elements.{recursion_from_All}
pub use Rattle.std.proofs.lemmas.List.Folds.{fold_stays, list_any_at, list_any_more}
pub use Rattle.std.proofs.lemmas.List.FromFn.{get_or-range_with_len, length-map-range_with_len}
pub use Rattle.std.proofs.lemmas.List.FromFn.{length-range_with_len, map-range_with_len_more}
pub use Rattle.std.proofs.lemmas.List.Sums.{fold-append}
pub use Rattle.std.proofs.lemmas.Option.{MatchOption-at_none, get_or_from_slice_get, slice_get-get_or}
pub use Rattle.std.proofs.lemmas.Option.{slice_get-map, slice_get_read, slice_get_within}
pub use Rattle.std.proofs.lemmas.Result.{IfOk-from_err, MatchResult-weaker}
pub use Rattle.std.proofs.lemmas.Slice.Eq.{bytes_eq-Decides}
pub use Rattle.std.proofs.lemmas.Str.{IsUtf8-append, IsUtf8-from_ascii, IsUtf8-nil}
pub use Rattle.std.proofs.lemmas.Str.Parse.{digit_from_value}
pub use Rattle.std.specs.Char.{digit_value, is_ascii_digit, is_ascii_graphic}
pub use Rattle.std.specs.List.{AllByRecursion, cons_option, list_all, list_any, range_with_len}
pub use Rattle.std.specs.Str.Parse.{AllDigits, digits_value_after}
pub use Rattle.lw_base.proofs.Common.{And, Bytes, CellGrid, Cells, Formula, HoldsOfNothing, IsDuplicateFree}
pub use Rattle.lw_base.proofs.Common.{IsName, IsRegisterName, IsSeenInRange, IsTestName, IsUnreservedName}
pub use Rattle.lw_base.proofs.Common.{IsWellFormedHead, IsWordNumber, MentionsOnly, NameTable, No, Not, Or}
pub use Rattle.lw_base.proofs.Common.{ParsesNothing, Reg_is, TestHead, TokenList, Word_is, Yes, all_registers}
pub use Rattle.lw_base.proofs.Common.{arch_keyword, assignment, byte, contains_name, first_byte_is}
pub use Rattle.lw_base.proofs.Common.{formula_of, head_of, insert_name, insert_names, is_binary, is_blank}
pub use Rattle.lw_base.proofs.Common.{is_key_byte, is_name_byte, is_or, is_reserved, is_space, locations}
pub use Rattle.lw_base.proofs.Common.{most_locations, most_name_bytes, most_nodes, most_rows, most_threads}
pub use Rattle.lw_base.proofs.Common.{nodes, parenthesized, parenthesized_if, position_of_name}
pub use Rattle.lw_base.proofs.Common.{proposition_text, quantifier_text, register_name, registers, seen_eq}
pub use Rattle.lw_base.proofs.Common.{site_text, thread_registers}
pub use Rattle.lw_base.proofs.api.Blanks.{byte_eq-sound, is_blank-passes, list_all-member, name_ascii}
pub use Rattle.lw_base.proofs.api.Blanks.{name_bytes_ascii, slice_index_or-ascii}
pub use Rattle.lw_base.proofs.api.Elements.{All-append_inv, All-map_inv, All-mono, AllByRecursion-append}
pub use Rattle.lw_base.proofs.api.Elements.{AllByRecursion-every_image, AllByRecursion-filter}
pub use Rattle.lw_base.proofs.api.Elements.{AllByRecursion-map, AllByRecursion-map_range}
pub use Rattle.lw_base.proofs.api.Elements.{AllByRecursion-of_All}
pub use Rattle.lw_base.proofs.api.GrowingTables.{IsDuplicateFree-insert_names, contains_name-insert_names}
pub use Rattle.lw_base.proofs.api.GrowingTables.{contains_name-of_inserted, insert_name-grows}
pub use Rattle.lw_base.proofs.api.GrowingTables.{insert_names-append, length_le-insert_names}
pub use Rattle.lw_base.proofs.api.GrowingTables.{position_of_name-insert_names, position_of_name-within}
pub use Rattle.lw_base.proofs.api.Lists.{cons-head_eq, slice_get-in_range}
pub use Rattle.lw_base.proofs.api.Registers.{register_of_name-unique}
pub use Rattle.lw_base.proofs.api.SeenLists.{IsAscending-all_seen, IsAscending-filter, IsSeenInRange-all_seen}
pub use Rattle.lw_base.proofs.api.Tables.{IsInTable, position_of_name-again, position_of_name-at}
pub use Rattle.lw_base.specs.declared.head.Arch.{Arch}
pub use Rattle.lw_base.specs.declared.head.Arch.TheVariants.{Source, X86}
pub use Rattle.lw_base.specs.declared.head.Quant.{Quant}
pub use Rattle.lw_base.specs.declared.head.Quant.TheVariants.{Exists, Forall, NotExists}
pub use Rattle.lw_base.specs.declared.head.Seen.{Seen}
pub use Rattle.lw_base.specs.declared.head.Seen.TheVariants.{Location, Register}
pub use Rattle.lw_base.specs.declared.proposition.Prop.{Prop}
pub use Rattle.lw_text.specs.Causes.{IsParserCause}
pub use Rattle.lw_text.specs.Combinators.{ParsesMany, ParsesManyTill, ParsesSepBy, ParsesSepEndBy}
pub use Rattle.lw_text.specs.Conditions.{Always, AtomSyntax, Holds, IsAtom, IsTerminal, Listed, Never}
pub use Rattle.lw_text.specs.Conditions.{ParsesQuestion, Quantified, Terminals, begins_token, resolved}
pub use Rattle.lw_text.specs.Conditions.{site_of, sites_in}
pub use Rattle.lw_text.specs.Failures.{FailsBefore, FailsInAssignment, FailsInBlock, FailsInBrackets}
pub use Rattle.lw_text.specs.Failures.{FailsInElements, FailsInHeader, FailsInInitializers, FailsInList}
pub use Rattle.lw_text.specs.Failures.{FailsInName, FailsInProposition, FailsInQuantifier, FailsInQuestion}
pub use Rattle.lw_text.specs.Failures.{FailsInRegister, FailsInRow, FailsInRows, FailsInSite, FailsInSites}
pub use Rattle.lw_text.specs.Failures.{FailsInTerminal, FailsInTest, FailsInValue, HasMissingThread}
pub use Rattle.lw_text.specs.Failures.{HasRoomForNode, HaveThreads, IfFirst, IsMisfitCause, IsNoNewLocation}
pub use Rattle.lw_text.specs.Failures.{PropositionPlace, ReadsBlock, ReadsHeader, after_terminal, first_place}
pub use Rattle.lw_text.specs.Failures.{in_block, in_bracketed_name, in_brackets, in_element}
pub use Rattle.lw_text.specs.Failures.{in_elements_after, in_header, in_initializers, in_list, in_name}
pub use Rattle.lw_text.specs.Failures.{in_next_thread, in_proposition, in_quantifier, in_question}
pub use Rattle.lw_text.specs.Failures.{in_register, in_row, in_rows, in_rows_after, in_site, in_sites}
pub use Rattle.lw_text.specs.Failures.{in_terminal, in_value, incomplete, next_place, no_brace, no_bracket}
pub use Rattle.lw_text.specs.Failures.{no_colon, no_end, no_equals, no_exists, no_list_bracket, no_number}
pub use Rattle.lw_text.specs.Failures.{no_quantifier, no_register_name, no_separator, no_such_thread}
pub use Rattle.lw_text.specs.Failures.{no_thread, no_thread_name, no_thread_separator, opening_words, ragged}
pub use Rattle.lw_text.specs.Failures.{too_many_nodes, too_many_rows, too_many_threads, unopened}
pub use Rattle.lw_text.specs.Frames.{Block, HasFrame, InitializerSyntax, IsInitializer, ParsesNoTest}
pub use Rattle.lw_text.specs.Frames.{ParsesTest, TestFrame, TestSyntax, frame_of_syntax, head_of_syntax}
pub use Rattle.lw_text.specs.Frames.{initial_word_of, listed_in, location_table, sites_of}
pub use Rattle.lw_text.specs.PlacedCells.{CellsFrom, HasCells, HasRows, PlacedCell, RowsFrom, texts_of_cells}
pub use Rattle.lw_text.specs.PlacedCells.{texts_of_grid}
pub use Rattle.lw_text.specs.PlacedTokens.{IsPlacedToken, PlacedToken, PlacedTokens, texts_of_tokens}
pub use Rattle.lw_text.specs.Places.{EndsBefore, all_texts, cell_texts, cells_texts, height, placed_cell}
pub use Rattle.lw_text.specs.Places.{placed_cells, placed_row, with_span, with_spans}
pub use Rattle.lw_text.specs.Preambles.{KeyLine, Note, Notes, ParsesTestName, Preamble, Quoted, none, note}
pub use Rattle.lw_text.specs.Propositions.{Atom, Close, Conjunction, ConjunctionLevel, Derives, Disjunction}
pub use Rattle.lw_text.specs.Propositions.{DisjunctionLevel, HasFewNodes, IsProposition, Level, Negation}
pub use Rattle.lw_text.specs.Propositions.{Open, PartLevel, Terminal, and, atom, conjunction, is_node}
pub use Rattle.lw_text.specs.Propositions.{negated, or, parens, part}
pub use Rattle.lw_text.specs.Rows.{Header, Names, Row, RowCells, Rows, begins_stop, column, columns}
pub use Rattle.lw_text.specs.Rows.{ends_cell, thread_name}
pub use Rattle.lw_text.specs.Sites.{HasRoomFor, HasRoomForName, InMemory, InThread, IsSite, SiteSyntax}
pub use Rattle.lw_text.specs.Sites.{ThreadAllowed, ThreadExists, Value, seen_in, site_name, site_names}
pub use Rattle.lw_text.specs.Sites.{with_sites}
pub use Rattle.lw_text.specs.Spans.{IsSuffix, Spans, token_texts}
pub use Rattle.lw_text.specs.TextFailures.{FailsAt, FailsInBody, FailsInFirstToken, FailsInKeyLine}
pub use Rattle.lw_text.specs.TextFailures.{FailsInNote, FailsInNotes, FailsInPreamble, FailsInTestName}
pub use Rattle.lw_text.specs.TextFailures.{FailsInToken, HasOpenComment, HasTokens, IsLongestRun, IsNoteCause}
pub use Rattle.lw_text.specs.TextFailures.{after_note, at_end, at_token, bad_name, in_body, in_key_line}
pub use Rattle.lw_text.specs.TextFailures.{in_keyword, in_next_token, in_note, in_notes, in_preamble}
pub use Rattle.lw_text.specs.TextFailures.{in_test_name, in_token, no_blank, no_equals_sign, no_keyword}
pub use Rattle.lw_text.specs.TextFailures.{no_name, no_name_run, no_number_run, no_symbol, open_comment}
pub use Rattle.lw_text.specs.TextFailures.{open_comment_in_notes, open_quote, other_keyword}
pub use Rattle.lw_text.specs.TokenKinds.{IsOfKind}
pub use Rattle.lw_text.specs.Tokens.{Comment, Digits, IsFirstToken, IsNameOrNumber, IsNameRun, IsNumber}
pub use Rattle.lw_text.specs.Tokens.{IsSymbol, IsToken, Tokens, Trivia, begins_comment_sign, begins_pair}
pub use Rattle.lw_text.specs.Tokens.{begins_trivia, blank, closed, comment, is_one_byte_symbol}
pub use Rattle.lw_text.specs.Tokens.{is_two_byte_symbol, nested, one_byte_symbols, opens_comment, other}
pub use Rattle.lw_text.specs.Tokens.{two_byte_symbols}
pub use Rattle.lw_text.specs.Views.{AdvancesTo, BeginsAt, Fails, FailsFrom, frame_of, remaining}
pub use Rattle.lw_text.specs.Views.{remaining_texts}
pub use Rattle.lw_text.specs.declared.block.Initializer.{Initializer}
pub use Rattle.lw_text.specs.declared.cell.Cell.{Cell}
pub use Rattle.lw_text.specs.declared.cursor.Cursor.{Cursor}
pub use Rattle.lw_text.specs.declared.fault.Fault.{Fault}
pub use Rattle.lw_text.specs.declared.fault.Refusal.{Refusal}
pub use Rattle.lw_text.specs.declared.fault.TextCause.{TextCause}
pub use Rattle.lw_text.specs.declared.fault.TextCause.TheVariants.{Condition, Memory, Name, NotUtf8, Number}
pub use Rattle.lw_text.specs.declared.fault.TextCause.TheVariants.{TooLong, TooManyThreads, Unexpected}
pub use Rattle.lw_text.specs.declared.fault.TextCause.TheVariants.{Unterminated}
pub use Rattle.lw_text.specs.declared.parts.ParsedBody.{ParsedBody}
pub use Rattle.lw_text.specs.declared.proposition_reader.PropositionReader.{PropositionReader}
pub use Rattle.lw_text.specs.declared.site.Site.{Site}
pub use Rattle.lw_text.specs.declared.token.Token.{Token}
pub use Rattle.lw_text.specs.declared.token_kind.TokenKind.TheVariants.{Symbol}
pub use Rattle.lw_text.specs.inner.Parsed.{BeginInitializers, BeginsInitializer, Fits, NoProposition}
pub use Rattle.lw_text.specs.inner.Parsed.{NoQuestion, ParsedBlock, ParsedCell, ParsedNameList}
pub use Rattle.lw_text.specs.inner.Parsed.{ParsedProposition, ParsedQuestion, ParsedSite, ParsedTerminal}
pub use Rattle.lw_text.specs.inner.Parsed.{StopsAt, StreamFails, at_stream_end, at_stream_fault}
pub use Rattle.lw_text.specs.inner.Parsed.{at_stream_token}
pub use Rattle.lw_text.specs.inner.ReaderStates.{AfterPart, BeforePart, GroupState, ReaderState, after_and}
pub use Rattle.lw_text.specs.inner.ReaderStates.{after_or, ands_of, begins_part, group_of}
pub use Rattle.lw_text.specs.inner.ReaderStates.{initial_reader_state, negations, new_group, next_state}
pub use Rattle.lw_text.specs.inner.ReaderStates.{ors_of, place_of, reader_state_in, state_of, state_result}
pub use Rattle.lw_text.specs.inner.ReaderStates.{with_not}
pub use Rattle.lw_text.specs.inner.Resolved.{HasSyntax, IsIn, TerminalIn, is_allowed, is_listed}
pub use Rattle.lw_text.specs.inner.Resolved.{named_initializer, named_terminal, resolved_head, seen_of}
pub use Rattle.lw_text.specs.inner.Resolved.{site_by_name, syntax_of, thread_exists, word_at}
pub use Rattle.lw_text.specs.inner.Terminals.{terminal_of}
pub use Rattle.lw_text.specs.laws.TokenKindProps.{no_both}
