-- What proofs cite of std, of lower crates and of this crate's definitions, passed on from one place. Declares nothing.
pub use Rattle.std.proofs.Common.{All, AllPairs, Bool, Bor, Contains, Err, IfErr, IfOk, IfSome, IsAscii}
pub use Rattle.std.proofs.Common.{IsTrue, IsUtf8, Less, List, MatchOption, None, Ok, OnOk, Option, Result}
pub use Rattle.std.proofs.Common.{Some, [], add-one, ap, append-nil, append_assoc, ap₂, arith, codes, decimal}
pub use Rattle.std.proofs.Common.{drop, drop-cons, eqb-true, false, if◌then◌else◌, inl, inr, is_ok, length}
pub use Rattle.std.proofs.Common.{length-append, length-take, length-take-le, ltb-true, map, nat_cmp, nat_eq}
pub use Rattle.std.proofs.Common.{nat_lt, not, option_map, refl, replicate, rules, slice_get, slice_index}
pub use Rattle.std.proofs.Common.{slice_index_or, slice_set, string_bytes, subst, suc, sym, take}
pub use Rattle.std.proofs.Common.{take-append-drop, take_all, true, zero, ℕ, ◌&&◌, ◌++◌, ◌+◌, ◌-◌, ◌<◌, ◌==◌}
pub use Rattle.std.proofs.Common.{◌^◌, ◌||◌, ◌↔◌, ◌∙◌, ◌∷◌, ◌≡◌, ◌≢◌, ◌≤◌, ◌⊎◌}
pub use Rattle.std.proofs.lemmas.Bool.{agree_below, agree_below_at, and_parts, cases_lt, false≢true, not-true}
pub use Rattle.std.proofs.lemmas.Bool.Decides.{nat_tests}
pub use Rattle.std.proofs.lemmas.List.{drop_all, length-map, take-append-le}
pub use Rattle.std.proofs.lemmas.List.Elements.{All-cons, All-from_recursion, All-map, All-nil, All-weaker}
pub use Rattle.std.proofs.lemmas.List.Kept.{AllPairs-cons}
pub use Rattle.std.proofs.lemmas.Option.{get_or_from_slice_get, none-some, same_Some, slice_get-get_or}
pub use Rattle.std.proofs.lemmas.Option.{slice_get-map, slice_get_within}
pub use Rattle.std.proofs.lemmas.Result.{IfErr-weaker, IfOk-weaker, err_from_is_err_and, on_ok_weaker}
pub use Rattle.std.proofs.lemmas.Str.{IsUtf8-from_ascii}
pub use Rattle.std.specs.Char.{digit_value, is_ascii_digit}
pub use Rattle.std.specs.Cmp.{unsigned_Decides}
pub use Rattle.std.specs.Cmp.Lexicographic.{pointwise, pointwise_decides, slice_cmp}
pub use Rattle.std.specs.Io.KnownBytes.{Appends, Consumes, IsAtEnd, Keeps}
pub use Rattle.std.specs.List.{AllByRecursion, list_all}
pub use Rattle.std.specs.Option.{ForSome}
pub use Rattle.lw_base.proofs.Common.{Bytes, FinalState, Formula, HasOutcomeShape, HoldsOfNothing, IsEvent}
pub use Rattle.lw_base.proofs.Common.{IsListedOutcome, IsRegisterIndex, IsRegisterName, IsSchedule}
pub use Rattle.lw_base.proofs.Common.{IsTestName, IsUnreservedName, IsWellFormedHead, IsWordNumber}
pub use Rattle.lw_base.proofs.Common.{MentionsOnly, NameTable, Reg_is, TestHead, TokenList, byte}
pub use Rattle.lw_base.proofs.Common.{final_state_cmp, final_word, first_byte_is, head_of, is_blank}
pub use Rattle.lw_base.proofs.Common.{is_name_byte, is_reserved, most_locations, most_text_bytes}
pub use Rattle.lw_base.proofs.Common.{most_threads, nodes, register_name, registers, stop_code, stop_name}
pub use Rattle.lw_base.proofs.Common.{thread_code}
pub use Rattle.lw_base.proofs.api.Formulas.{MentionsLocationsBelow-if_mentions_only}
pub use Rattle.lw_base.proofs.api.Lists.{cons-head_eq, slice_get-in_range}
pub use Rattle.lw_base.proofs.api.Returns.{Err-clause_propagated}
pub use Rattle.lw_base.proofs.api.Writing.{OnOk-push_str, written-append, written-equal_text}
pub use Rattle.lw_base.proofs.api.Writing.{written-two_parts}
pub use Rattle.lw_base.specs.declared.event.Event.{Event}
pub use Rattle.lw_base.specs.declared.event.Event.TheVariants.{Drain, Evict, Step}
pub use Rattle.lw_base.specs.declared.fault.CellCause.{CellCause}
pub use Rattle.lw_base.specs.declared.fault.CellFault.{CellFault}
pub use Rattle.lw_base.specs.declared.fault.ScheduleCause.{ScheduleCause}
pub use Rattle.lw_base.specs.declared.fault.ScheduleFault.{ScheduleFault}
pub use Rattle.lw_base.specs.declared.head.Arch.{Arch}
pub use Rattle.lw_base.specs.declared.head.Arch.TheVariants.{Source, X86}
pub use Rattle.lw_base.specs.declared.head.Quant.{Quant}
pub use Rattle.lw_base.specs.declared.head.Quant.TheVariants.{Exists, NotExists}
pub use Rattle.lw_base.specs.declared.head.Seen.TheVariants.{Register}
pub use Rattle.lw_base.specs.declared.operand.Operand.TheVariants.{Number}
pub use Rattle.lw_base.specs.declared.stop.End.{End}
pub use Rattle.lw_base.specs.declared.stop.End.TheVariants.{Stopped}
pub use Rattle.lw_base.specs.declared.stop.Replay.{Replay}
pub use Rattle.lw_base.specs.declared.stop.Stop.{Stop}
pub use Rattle.lw_base.specs.declared.stop.Stop.TheVariants.{NoCpu}
pub use Rattle.lw_litmus.proofs.Common.{IsWellFormedProgram, IsWellFormedSource, IsWellFormedStatement}
pub use Rattle.lw_litmus.proofs.Common.{IsWellFormedThread, IsWellScopedProgram, IsWellScopedSource}
pub use Rattle.lw_litmus.proofs.Common.{SourceTest, X86Test, branch_target, program_of, source_language}
pub use Rattle.lw_litmus.proofs.Common.{source_of, x86_language, x86_operation}
pub use Rattle.lw_litmus.proofs.api.WellScoped.{IsWellScoped-well_formed}
pub use Rattle.lw_litmus.specs.declared.instr.Instr.{Instr}
pub use Rattle.lw_litmus.specs.declared.stmt.Stmt.{Stmt}
pub use Rattle.lw_interleaving.proofs.Common.{SourceOutcome, SourceRunsTo, State, initial_state}
pub use Rattle.lw_interleaving.proofs.Common.{is_source_final, source_outcome, source_step, thread_step}
pub use Rattle.lw_interleaving.specs.declared.thread.Thread.{Thread}
pub use Rattle.lw_memory.proofs.Common.{flat_memory}
pub use Rattle.lw_memory.specs.declared.system.LineState.{LineState}
pub use Rattle.lw_mesi.proofs.Common.{coherent_word, protocol_lawful, protocol_name, unheld_cache_line}
pub use Rattle.lw_mesi.specs.declared.protocol.Protocol.{Protocol}
pub use Rattle.lw_mesi.specs.declared.protocol.Protocol.TheVariants.{Mesi}
pub use Rattle.lw_tso.proofs.Common.{EffectTransition, EventEffect, EventResult, HasInsertedFences}
pub use Rattle.lw_tso.proofs.Common.{HasInsertedFencesInCode, IsMachineOutcome, MachineRunsTo, MachineState}
pub use Rattle.lw_tso.proofs.Common.{MachineTransition, Processor, ProcessorTransition, buffer_of, cpu_of}
pub use Rattle.lw_tso.proofs.Common.{event_effect, initial_machine_state, machine_outcome}
pub use Rattle.lw_tso.proofs.api.Effects.{EffectLeadsTo, EffectLeadsTo-if_done, Leaves}
pub use Rattle.lw_tso.proofs.api.Effects.{MachineTransition-of_effect, act_after}
pub use Rattle.lw_tso.proofs.api.Effects.{not-EffectLeadsTo-evict_event, state}
pub use Rattle.lw_tso.proofs.api.Endings.{CanTerminate-reached}
pub use Rattle.lw_tso.proofs.api.FenceRemoval.{HasInsertedFencesInCode-code_without}
pub use Rattle.lw_tso.proofs.api.FlatSimulation.{IsWithin-reached}
pub use Rattle.lw_fence.proofs.Common.{IsCompiled, IsCompiledWith}
pub use Rattle.lw_fence.proofs.api.Compilations.{AreSubset-nil, HasInsertedFences-more_fences}
pub use Rattle.lw_fence.proofs.api.Compilations.{IsCompiled-exists, IsCompiled-iff_without_fences}
pub use Rattle.lw_fence.proofs.api.Compilations.{IsCompiled-unique, IsMachineOutcome-compiled_iff}
pub use Rattle.lw_fence.proofs.api.Compilations.{IsMachineOutcome-of_source, IsWellFormedProgram-compiled}
pub use Rattle.lw_fence.proofs.api.Compilations.{IsWellScopedProgram-compiled}
pub use Rattle.lw_fence.proofs.api.Compilations.{IsWellScopedProgram-with_fences, machine_outcome-exists}
pub use Rattle.lw_outcome_map.specs.Listings.{IsStrictlySorted, OutcomeEntries, OutcomesWith, outcomes_of}
pub use Rattle.lw_outcome_map.specs.Listings.{schedules_of}
pub use Rattle.lw_paths.proofs.Common.{HasTooManyItems, IsWithinOrderLimit, JumpsForward, items_of_assignment}
pub use Rattle.lw_paths.proofs.Common.{path_assignments, total_of}
pub use Rattle.lw_paths.proofs.api.Enumerated.{Contains-path_assignments}
pub use Rattle.lw_paths.proofs.api.Totals.{IsTotalOrderCount-total_of}
pub use Rattle.lw_tso_caches.proofs.api.Starts.{IsInitialMemory-empty_caches}
pub use Rattle.lw_tso_caches.specs.CompleteLists.{ListsMachine}
pub use Rattle.lw_tso_caches.specs.OverCaches.{FitsCaches, OutcomeOverCaches, ReplaysToOverCaches}
pub use Rattle.lw_report.proofs.Common.{AreListedStates, AreStatesOf, IsFirstWithWords, IsMarkedList}
pub use Rattle.lw_report.proofs.Common.{IsReport, IsScheduleList, IsSmallestOf, ListedState, ProjectedState}
pub use Rattle.lw_report.proofs.Common.{is_true, marked_list_text, observed_words, project_state}
pub use Rattle.lw_report.proofs.Common.{projection_of, report_text, schedule_list_text, scheduled}
pub use Rattle.lw_report.proofs.api.OneList.{IsReport-unique}
pub use Rattle.lw_report.specs.declared.judgement.Claim.{Claim}
pub use Rattle.lw_report.specs.declared.judgement.Claim.TheVariants.{Exact}
pub use Rattle.lw_text.proofs.Common.{Atom, Close, Comment, Conjunction, Derives, DisjunctionLevel, FailsAt}
pub use Rattle.lw_text.proofs.Common.{HasFrame, Holds, InThread, IsNameOrNumber, IsNumber, IsSymbol, IsToken}
pub use Rattle.lw_text.proofs.Common.{Open, ParsesQuestion, ParsesTest, PlacedCell, Preamble, Terminal}
pub use Rattle.lw_text.proofs.Common.{TestFrame, TestSyntax, Tokens, and, atom, begins_comment_sign, blank}
pub use Rattle.lw_text.proofs.Common.{closed, comment, conjunction, ends_cell, frame_of, frame_of_syntax}
pub use Rattle.lw_text.proofs.Common.{is_one_byte_symbol, is_two_byte_symbol, opens_comment, other, parens}
pub use Rattle.lw_text.proofs.Common.{part, placed_cells}
pub use Rattle.lw_text.proofs.api.Frames.{frame_columns, frame_well_formed}
pub use Rattle.lw_text.proofs.api.Indices.{is_index}
pub use Rattle.lw_text.proofs.api.Places.{grid_placed}
pub use Rattle.lw_text.proofs.api.Spelling.{is_name_text, list_all-AllByRecursion, name_by_test}
pub use Rattle.lw_text.specs.Tokens.{none}
pub use Rattle.lw_text.specs.declared.fault.TextCause.{TextCause}
pub use Rattle.lw_text.specs.declared.fault.TextFault.{TextFault}
pub use Rattle.lw_statements.proofs.Common.{CellFaultIsTrue, CellSyntax, Column, LabelsLeadForward}
pub use Rattle.lw_statements.proofs.Common.{ParsesCell, ParsesStatement, statements}
pub use Rattle.lw_source.proofs.api.Tests.{well_formed_source}
pub use Rattle.lw_source.specs.Grammar.{HasSource, source_grammar}
pub use Rattle.lw_x86.proofs.Common.{HasProgram, IsTextOf, canonical_text, printed_form, x86_grammar}
pub use Rattle.lw_x86.proofs.Common.{x86_spelling}
pub use Rattle.lw_x86.proofs.api.Tests.{well_formed_program}
pub use Rattle.lw_bench.specs.Classics.{both_loads_are_early, flag_without_message, message_passing_in_x86}
pub use Rattle.lw_bench.specs.Classics.{store_buffering, store_buffering_in_x86, two_threads}
pub use Rattle.lw_bench.specs.Commands.{IsCommand, IsProtocolOption}
pub use Rattle.lw_bench.specs.Compilations.{IsCompilation, IsCompiledText}
pub use Rattle.lw_bench.specs.Devices.{IsInput, LosesInput, ReadsMore, TakesInput, TakesSome, WritesPrefix}
pub use Rattle.lw_bench.specs.Endings.{EndsTask, Reports}
pub use Rattle.lw_bench.specs.Examples.{store_buffering_body, store_buffering_notes, store_buffering_report}
pub use Rattle.lw_bench.specs.Examples.{store_buffering_text}
pub use Rattle.lw_bench.specs.FaultTruth.{CellFaultIsTrueIn, CellFaultIsTrueOf, InputFaultIsTrue}
pub use Rattle.lw_bench.specs.FaultTruth.{IsFaultOfText, IsNotDeviceFault, ReadFaultIsTrue, ReplayFaultIsTrue}
pub use Rattle.lw_bench.specs.FaultTruth.{RunFaultIsTrue, TakesBeforeFault, TextFaultIsTrue}
pub use Rattle.lw_bench.specs.Faults.{cell_fault, cell_run_fault, schedule_fault, schedule_run_fault}
pub use Rattle.lw_bench.specs.Faults.{text_fault, text_run_fault}
pub use Rattle.lw_bench.specs.Films.{IsFilm, IsFilmOf}
pub use Rattle.lw_bench.specs.Limits.{most_read_bytes}
pub use Rattle.lw_bench.specs.Lists.{AreObservedOutcomesOf, AreOutcomesOf, IsExactMarkedList, IsExactReport}
pub use Rattle.lw_bench.specs.Lists.{IsExactScheduleList, IsListOf, IsReachedOnMachine, IsReachedOverCaches}
pub use Rattle.lw_bench.specs.Lists.{IsStatesReport, IsWithinListLimits}
pub use Rattle.lw_bench.specs.LitmusTests.{LitmusTest, Of_source, Of_x86, head_of_test, litmus_test_of}
pub use Rattle.lw_bench.specs.Outcomes.{HasOverCaches, IsProgramOf, IsProgramRunFor, OutcomeOf}
pub use Rattle.lw_bench.specs.Outcomes.{ProgramReplaysTo}
pub use Rattle.lw_bench.specs.Outputs.{IsOutputOf, Writes}
pub use Rattle.lw_bench.specs.Pages.{buffer_line, end_text, entry_text, first_lines, letter, machine_page}
pub use Rattle.lw_bench.specs.Pages.{named, numbered, processor_lines, processor_title, register_names}
pub use Rattle.lw_bench.specs.Pages.{source_page, thread_line, word_at, word_line}
pub use Rattle.lw_bench.specs.Replays.{IsPageOf, IsReplayPage}
pub use Rattle.lw_bench.specs.Runs.{Devices, IsRun, devices}
pub use Rattle.lw_bench.specs.Tasks.{TaskFaultIsTrue}
pub use Rattle.lw_bench.specs.TestTexts.{FrameHasTest, HasTest}
pub use Rattle.lw_bench.specs.WellFormedTests.{IsWellFormedTest}
pub use Rattle.lw_bench.specs.declared.command.Task.{Task}
pub use Rattle.lw_bench.specs.declared.command.Task.TheVariants.{Compile, Schedules, States}
pub use Rattle.lw_bench.specs.declared.ending.Ending.{Ending}
pub use Rattle.lw_bench.specs.declared.ending.Ending.TheVariants.{Answer, Refusal}
pub use Rattle.lw_bench.specs.declared.fault.BenchFault.{BenchFault}
pub use Rattle.lw_bench.specs.declared.fault.BenchFault.TheVariants.{Cell, Limit, Memory, Read, Schedule}
pub use Rattle.lw_bench.specs.declared.fault.BenchFault.TheVariants.{Text, Write}
