-- What proofs cite of std, of lower crates and of this crate's definitions, passed on from one place. Declares nothing.
pub use Rattle.std.proofs.Common.{All, Bool, Contains, Err, IfOk, IfSome, IsErrAnd, IsTrue, List, MatchBool}
pub use Rattle.std.proofs.Common.{MatchOption, MatchResult, None, Ok, Option, Result, Some, [], ap}
pub use Rattle.std.proofs.Common.{append-nil, append_assoc, arith, bytes_eq, codes, decimal, drop, eqb}
pub use Rattle.std.proofs.Common.{eqb-true, false, filter_map, get_or, if◌then◌else◌, inl, inr, is_some}
pub use Rattle.std.proofs.Common.{length, length-append, length-take, ltb, ltb-false, ltb-true, map, max}
pub use Rattle.std.proofs.Common.{nat_cmp, not, option_map, refl, replicate, rules, slice_get, slice_index_or}
pub use Rattle.std.proofs.Common.{subst, suc, sym, take, take-append-drop, take_all, true, true≢false, zero}
pub use Rattle.std.proofs.Common.{ℕ, ◌*◌, ◌++◌, ◌+◌, ◌-◌, ◌<◌, ◌||◌, ◌↔◌, ◌∙◌, ◌∷◌, ◌≡◌, ◌≤◌, ◌⊎◌}
pub use Rattle.std.proofs.Math.Nat.{ℕ_set}
pub use Rattle.std.proofs.lemmas.Bool.{agree_below_at, and_parts, cases_Bool, eqb-false, false_from_ne_true}
pub use Rattle.std.proofs.lemmas.Bool.{not-false, or_right}
pub use Rattle.std.proofs.lemmas.Grind.{flat_map-append}
pub use Rattle.std.proofs.lemmas.List.{drop-map, length-map, map-append, take-map}
pub use Rattle.std.proofs.lemmas.List.Elements.{All-contains, All-from_recursion, All-more, All-weaker}
pub use Rattle.std.proofs.lemmas.List.Elements.{Contains-append_left, Contains-append_right}
pub use Rattle.std.proofs.lemmas.List.Elements.{filter_map-append}
pub use Rattle.std.proofs.lemmas.List.Folds.{list_any-append, list_any_at}
pub use Rattle.std.proofs.lemmas.Map.Text.{btree_map_updates_str}
pub use Rattle.std.proofs.lemmas.Option.{get_or_from_slice_get, none-some, same_Some, slice_get-map}
pub use Rattle.std.proofs.lemmas.Option.{slice_get_read, slice_get_within}
pub use Rattle.std.proofs.lemmas.Result.{MatchResult-at_err, MatchResult-at_ok, MatchResult-weaker}
pub use Rattle.std.proofs.lemmas.Slice.Eq.{bytes_eq-Decides}
pub use Rattle.std.proofs.lemmas.Str.Ascii.{lowercase_is}
pub use Rattle.std.specs.Char.{is_ascii_digit, to_ascii_lowercase}
pub use Rattle.std.specs.Cmp.{unsigned_Decides}
pub use Rattle.std.specs.Cmp.Lexicographic.{pointwise_decides}
pub use Rattle.std.specs.List.{AllByRecursion, AllZip, cons_option, list_all, list_any}
pub use Rattle.std.specs.Map.{update}
pub use Rattle.std.specs.Option.{ForSome, option_len, option_or}
pub use Rattle.std.specs.Ordering.{ord_max}
pub use Rattle.lw_base.proofs.Common.{Bytes, CellGrid, Cells, IsDuplicateFree, IsNameTable, IsRegisterIndex}
pub use Rattle.lw_base.proofs.Common.{IsRegisterName, IsUnreservedName, IsWellFormedHead, IsWordNumber}
pub use Rattle.lw_base.proofs.Common.{NameTable, TestHead, TokenList, contains_name, first_byte_is, head_of}
pub use Rattle.lw_base.proofs.Common.{insert_name, insert_names, is_name_byte, is_numbered_register}
pub use Rattle.lw_base.proofs.Common.{is_reserved, keywords, lowercase_if_x86, most_locations}
pub use Rattle.lw_base.proofs.Common.{position_of_name, register_name, registers, set_location_names}
pub use Rattle.lw_base.proofs.Common.{x86_registers}
pub use Rattle.lw_base.proofs.api.Elements.{All-append_inv, AllByRecursion-append}
pub use Rattle.lw_base.proofs.api.GrowingTables.{IsDuplicateFree-insert_names, contains_name-insert_names}
pub use Rattle.lw_base.proofs.api.GrowingTables.{contains_name-of_inserted, insert_names-append}
pub use Rattle.lw_base.proofs.api.GrowingTables.{length_le-insert_names, position_of_name-insert_names}
pub use Rattle.lw_base.proofs.api.GrowingTables.{position_of_name-within}
pub use Rattle.lw_base.proofs.api.Lists.{at_index, cons-head_eq, drop-cons_at, drop-past_end}
pub use Rattle.lw_base.proofs.api.Lists.{slice_get-append_cases, slice_get-append_middle, take-suc}
pub use Rattle.lw_base.proofs.api.Lists.{take_drop-at}
pub use Rattle.lw_base.proofs.api.Registers.{register_of_name-unique}
pub use Rattle.lw_base.proofs.api.Returns.{Err-clause_known}
pub use Rattle.lw_base.proofs.api.Tables.{IsDuplicateFree-push, contains_name-Contains}
pub use Rattle.lw_base.proofs.api.Tables.{insert_name-if_in_table, insert_name-if_new}
pub use Rattle.lw_base.proofs.api.WellFormedHeads.{IsWellFormedHead-set_location_names}
pub use Rattle.lw_base.specs.declared.fault.CellCause.{CellCause}
pub use Rattle.lw_base.specs.declared.fault.CellCause.TheVariants.{Backward, Form, LabelMissing, LabelTwice}
pub use Rattle.lw_base.specs.declared.fault.CellCause.TheVariants.{Memory, TooMany}
pub use Rattle.lw_base.specs.declared.fault.CellFault.{CellFault}
pub use Rattle.lw_base.specs.declared.head.Arch.{Arch}
pub use Rattle.lw_base.specs.declared.head.Arch.TheVariants.{Source, X86}
pub use Rattle.lw_base.specs.declared.operand.Operand.{Operand}
pub use Rattle.lw_litmus.proofs.Common.{IsWellFormed, IsWellFormedStatement, IsWellFormedThread, Test}
pub use Rattle.lw_litmus.proofs.Common.{branch_target, numbers_of, registers_of, test_of}
pub use Rattle.lw_litmus.specs.declared.operation.Operation.{Operation}
pub use Rattle.lw_text.proofs.Common.{EndsBefore, IsNumber, PlacedCell, PlacedToken, TestFrame, all_texts}
pub use Rattle.lw_text.proofs.Common.{cell_texts, cells_texts, frame_of, placed_cell, placed_cells}
pub use Rattle.lw_text.proofs.Common.{placed_row, texts_of_cells, texts_of_grid, texts_of_tokens, token_texts}
pub use Rattle.lw_text.proofs.Common.{with_span, with_spans}
pub use Rattle.lw_text.proofs.api.Frames.{AreUnreserved-insert_names}
pub use Rattle.lw_text.proofs.api.Numbers.{number-unique, number_first}
pub use Rattle.lw_text.proofs.api.Places.{cells_placed, grid_placed, texts_placed}
pub use Rattle.lw_text.proofs.api.Spelling.{decimal_is_number, name_by_test}
pub use Rattle.lw_text.specs.declared.cell.Cell.{Cell}
pub use Rattle.lw_text.specs.declared.token.Token.{Token}
pub use Rattle.lw_statements.specs.Bindings.{AcceptAtMost, BeginsWith, CanFill, HasNext, HasSlotAfter}
pub use Rattle.lw_statements.specs.Bindings.{IsAcceptedLength, IsDrafted, IsFirstRejected, IsLocationSlot}
pub use Rattle.lw_statements.specs.Bindings.{IsLongestAccepted, IsMade, IsNameAmong, IsNotDrafted}
pub use Rattle.lw_statements.specs.Bindings.{IsOverflowSlot, IsRegisterSlot, IsSlotAfter, IsSpelling}
pub use Rattle.lw_statements.specs.Bindings.{all_disjoint, are_clear_forms, are_disjoint_forms}
pub use Rattle.lw_statements.specs.Bindings.{begins_without_colon, bind_slot, bindings_of, cannot_be_location}
pub use Rattle.lw_statements.specs.Bindings.{draft_of, draft_on, has_at_most_one_location_slot}
pub use Rattle.lw_statements.specs.Bindings.{has_no_location_slot, is_label_last, is_operand_slot}
pub use Rattle.lw_statements.specs.Bindings.{is_register_free, is_statement, is_word_slot, names_register}
pub use Rattle.lw_statements.specs.Bindings.{no_bindings, numbers_in, registers_in, tokens_differ}
pub use Rattle.lw_statements.specs.Bindings.{with_target}
pub use Rattle.lw_statements.specs.Cells.{CellSyntax, Column, FrameHasTest, Labels, LabelsLeadForward}
pub use Rattle.lw_statements.specs.Cells.{MaybeStatement, ParsesCell, code_in, labels_of, location_index}
pub use Rattle.lw_statements.specs.Cells.{names_in, names_of, resolve_test, resolved_statement}
pub use Rattle.lw_statements.specs.Cells.{resolved_target, statements, target_in}
pub use Rattle.lw_statements.specs.Faults.{AreRead, BeginsFitting, BeginsWithColon, BeginsWithLabel}
pub use Rattle.lw_statements.specs.Faults.{CellCauseIsTrue, CellFaultIsTrue, CellPosition, EndsEarly}
pub use Rattle.lw_statements.specs.Faults.{IsBackward, IsBegun, IsJumpLabel, IsMeantAsRegister, IsMisfit}
pub use Rattle.lw_statements.specs.Faults.{IsMisfitCause, IsMissing, IsNinth, IsReadTo, IsSecondLabel}
pub use Rattle.lw_statements.specs.Faults.{IsSurplus, IsUnknownRegister, IsWrong, TokenPosition, all_syntaxes}
pub use Rattle.lw_statements.specs.Faults.{table_after}
pub use Rattle.lw_statements.specs.Grammars.{BeginsStatement, CanBegin, Grammar, IsBeforeRegister, IsGrammar}
pub use Rattle.lw_statements.specs.Grammars.{IsLocationAfter}
pub use Rattle.lw_statements.specs.Operands.{IsOperand}
pub use Rattle.lw_statements.specs.Spellings.{Filling, Fills, Gives, ParsesStatement, SlotValue, Spelling}
pub use Rattle.lw_statements.specs.Spellings.{grammar_of, label_in, name_in}
pub use Rattle.lw_statements.specs.declared.column.DraftColumn.{DraftColumn}
pub use Rattle.lw_statements.specs.declared.draft.Draft.{Draft}
pub use Rattle.lw_statements.specs.declared.draft.DraftCell.{DraftCell}
pub use Rattle.lw_statements.specs.declared.draft.Operands.{Operands}
pub use Rattle.lw_statements.specs.declared.phrase.Phrase.{Phrase}
pub use Rattle.lw_statements.specs.declared.slot.Slot.{Slot}
pub use Rattle.lw_statements.specs.declared.slot.Slot.TheVariants.{Keyword, Label, Location, Number, Register}
pub use Rattle.lw_statements.specs.declared.slot.Slot.TheVariants.{Value}
pub use Rattle.lw_statements.specs.declared.statement_parser.SlotBindings.{SlotBindings}
pub use Rattle.lw_statements.specs.inner.Drafts.{ColumnDrafted, IsFresh, LabelMap, MapsLabelsAs}
pub use Rattle.lw_statements.specs.inner.Drafts.{ReadWithTable, draft_cell, draft_in, label_target, target_by}
pub use Rattle.lw_statements.specs.inner.Reading.{AllForward, BeginsStatementAt, ColumnFaultIsTrue}
pub use Rattle.lw_statements.specs.inner.Reading.{ColumnFits, ColumnRead, ColumnRefused, ColumnsRead}
pub use Rattle.lw_statements.specs.inner.Reading.{ColumnsRefused, EndsEarlyIn, Fits, FitsBelow}
pub use Rattle.lw_statements.specs.inner.Reading.{HasDuplicateLabelAt, HasExactlyLabels, HasForwardTarget}
pub use Rattle.lw_statements.specs.inner.Reading.{HasMisfitIn, HasNoLabelAt, HasOverflowIn, IsAtLabel}
pub use Rattle.lw_statements.specs.inner.Reading.{IsCellResolved, IsJumpCause, IsResolvable, IsResolved}
pub use Rattle.lw_statements.specs.inner.Reading.{IsUnresolved, LabelsFit, LabelsRead, LabelsRefused}
pub use Rattle.lw_statements.specs.inner.Reading.{LabelsTaken, MaybeRead, MaybeRefused}
pub use Rattle.lw_statements.specs.inner.Reading.{OptionalStatementFaultIsTrue, StatementFaultIsTrue}
pub use Rattle.lw_statements.specs.inner.Reading.{StatementRead, StatementRefused, WrongIn}
pub use Rattle.lw_statements.specs.inner.Reading.{cell_without_labels, named_by}
pub use Rattle.lw_statements.specs.inner.Tokens.{AllEndBefore, FaultClaim, NameRead, Refused}
