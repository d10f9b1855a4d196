-- What a fault states of a run's text, of a cell, and of the test. That memory ran out is always reported as `Memory`, and never as the
-- fault of a text or a cell (`not_out_of_memory`).
use Rattle.std.specs.Prelude.{◌≡◌, ◌≢◌, ◌⊎◌, ◌<◌, ◌≤◌, Option, List, length}
use Rattle.std.specs.Option.{IfSome}
use Rattle.std.specs.Str.{IsUtf8, IsValidUpTo}
use Rattle.std.specs.Str.Lossy.{utf8_valid_len}
use Rattle.lw_base.specs.Types.{Bytes, NameTable}
use Rattle.lw_base.specs.Limits.{most_text_bytes}
use Rattle.lw_base.specs.declared.fault.CellCause.TheVariants as cell
use Rattle.lw_base.specs.declared.fault.CellFault.{CellFault}
use Rattle.lw_base.specs.declared.fault.ScheduleFault.{ScheduleFault}
use Rattle.lw_base.specs.declared.event.Event.{Event}
use Rattle.lw_base.specs.Schedules.{IsSchedule, IsFirstFault}
use Rattle.lw_text.specs.declared.fault.TextCause.TheVariants as text
use Rattle.lw_text.specs.declared.fault.TextFault.{TextFault}
use Rattle.lw_base.specs.declared.head.Arch.{Arch}
use Rattle.lw_base.specs.declared.head.Arch.TheVariants.{Source, X86}
use Rattle.lw_text.specs.Frames.{TestFrame, HasFrame}
use Rattle.lw_text.specs.TextFailures.{FailsAt}
use Rattle.lw_text.specs.PlacedCells.{PlacedCell, texts_of_grid, HasCells}
use Rattle.lw_statements.specs.Faults.{CellFaultIsTrue}
use Rattle.lw_source.specs.Grammar.{source_grammar}
use Rattle.lw_x86.specs.Grammar.{x86_grammar}
use Rattle.lw_paths.specs.Counts.{LimitFaultIsTrue}
use Rattle.lw_litmus.specs.Sources.{source_language}
use Rattle.lw_litmus.specs.Programs.{x86_language}
use Rattle.lw_paths.specs.declared.fault.ListFault.{ListFault}
use Rattle.lw_paths.specs.declared.fault.ListFault.TheVariants as list
use Rattle.lw_bench.specs.declared.fault.BenchFault.{BenchFault}
use Rattle.lw_bench.specs.declared.fault.BenchFault.TheVariants.{Text, Cell, Schedule, Limit, Memory, Read, Write}
use Rattle.lw_bench.specs.Devices.{TakesInput, TakesSome}
use Rattle.lw_bench.specs.LitmusTests.{LitmusTest, Of_source, Of_x86, head_of_test}
use Rattle.lw_bench.specs.TestTexts.{FrameHasTest, HasTest}

-- The text has no frame, and what the fault states of its length, its encoding and the place is true.
pub record TextFaultIsTrue (bytes : Bytes) (f : TextFault) : Type 0 where
  pub none : (frame : TestFrame) → HasFrame bytes frame → ⊥
  pub place : f.at ≤ length bytes
  -- The fault of a text that is too long.
  pub too_long : most_text_bytes < length bytes → f ≡ record { at = most_text_bytes; cause = text.TooLong }
  pub only_too_long : f.cause ≡ text.TooLong → most_text_bytes < length bytes
  pub not_utf8 : length bytes ≤ most_text_bytes → ¬ IsUtf8 bytes
      → f ≡ record { at = utf8_valid_len bytes; cause = text.NotUtf8 }
  pub only_not_utf8 : f.cause ≡ text.NotUtf8
      → (length bytes ≤ most_text_bytes) × (¬ IsUtf8 bytes) × IsValidUpTo bytes f.at
  pub not_out_of_memory : f.cause ≢ text.Memory
  -- Any other fault is at the byte at which the text first fails to be a frame's, for the reason that its cause means.
  pub fails : f.cause ≢ text.TooLong → f.cause ≢ text.NotUtf8 → FailsAt bytes f.at f.cause

-- What a fault of a cell states, by the rules of the language, of the cells with their offsets.
abbrev pub CellFaultIsTrueIn : Arch → NameTable → List (List PlacedCell) → CellFault → Type 0
CellFaultIsTrueIn Source = CellFaultIsTrue source_grammar
CellFaultIsTrueIn X86 = CellFaultIsTrue x86_grammar

-- The text has a frame, whose cells are no test, and what the cause states of the place is true.
pub record CellFaultIsTrueOf (bytes : Bytes) (f : CellFault) : Type 0 where
  pub frame : TestFrame
  pub has_frame : HasFrame bytes frame
  pub cells : List (List PlacedCell)
  pub has_cells : HasCells bytes cells
  pub cells_are : texts_of_grid cells ≡ frame.cells
  pub none : (test : LitmusTest) → FrameHasTest frame test → ⊥
  pub place : f.at ≤ length bytes
  pub cause : CellFaultIsTrueIn frame.head.arch frame.head.locs cells f
  pub not_out_of_memory : f.cause ≢ cell.Memory

-- The fault is not the failure of a device, of the reader or of the writer.
abbrev pub IsNotDeviceFault : BenchFault → Type 0
IsNotDeviceFault f = (f ≢ Read) × (f ≢ Write)

-- The fault of reading a test from these bytes is true: of a text or a cell its place and cause.
abbrev pub ReadFaultIsTrue : Bytes → BenchFault → Type 0
ReadFaultIsTrue bytes (Text f) = TextFaultIsTrue bytes f
ReadFaultIsTrue bytes (Cell f) = CellFaultIsTrueOf bytes f
ReadFaultIsTrue bytes (Schedule f) = ⊥
ReadFaultIsTrue bytes (Limit f) = ⊥
ReadFaultIsTrue bytes Memory = Unit {0}
ReadFaultIsTrue bytes Read = Unit {0}
ReadFaultIsTrue bytes Write = Unit {0}

-- The fault is one of the text or of its cells.
abbrev pub IsFaultOfText : BenchFault → Type 0
IsFaultOfText (Text f) = Unit {0}
IsFaultOfText (Cell f) = Unit {0}
IsFaultOfText _ = ⊥

-- The fault of a run is true: that of reading the test, or what it states of the test that was read.
abbrev pub RunFaultIsTrue : (LitmusTest → BenchFault → Type 0) → Bytes → BenchFault → Type 0
RunFaultIsTrue TestFaultIsTrue bytes f = ReadFaultIsTrue bytes f ⊎ ((test : LitmusTest) × HasTest bytes test × TestFaultIsTrue test f)

-- The fault of a run is true of the bytes of a reader, if they are known.
abbrev pub InputFaultIsTrue : (LitmusTest → BenchFault → Type 0) → Option Bytes → BenchFault → Type 0
InputFaultIsTrue TestFaultIsTrue known f = IfSome known (λ bytes. RunFaultIsTrue TestFaultIsTrue bytes f)

-- What a run consumes of its input before this fault: the whole input, unless the reader failed or memory ran out, possibly before its end.
abbrev pub TakesBeforeFault : BenchFault → Option Bytes → Option Bytes → Type 0
TakesBeforeFault (Text f) = TakesInput
TakesBeforeFault (Cell f) = TakesInput
TakesBeforeFault (Schedule f) = TakesInput
TakesBeforeFault (Limit f) = TakesInput
TakesBeforeFault Memory = TakesSome
TakesBeforeFault Read = TakesSome
TakesBeforeFault Write = TakesInput

-- ---- Faults of a test that was read.

-- No fault is true of a test that was read: a compilation is rejected for nothing in it.
abbrev pub NoFaultIsTrue : LitmusTest → BenchFault → Type 0
NoFaultIsTrue test f = ⊥

-- The text is no schedule of the test, and its first faulty piece is at this offset, for this cause.
pub record ScheduleFaultIsTrue (schedule : Bytes) (test : LitmusTest) (f : ScheduleFault) : Type 0 where
  pub none : (events : List Event) → IsSchedule (head_of_test test).locs schedule events → ⊥
  pub first : IsFirstFault (head_of_test test).locs schedule f.at f.cause

-- The fault of a replay is true of a test: it is one of the schedule.
abbrev pub ReplayFaultIsTrue : Bytes → LitmusTest → BenchFault → Type 0
ReplayFaultIsTrue schedule test (Schedule f) = ScheduleFaultIsTrue schedule test f
ReplayFaultIsTrue schedule test (Text f) = ⊥
ReplayFaultIsTrue schedule test (Cell f) = ⊥
ReplayFaultIsTrue schedule test (Limit f) = ⊥
ReplayFaultIsTrue schedule test Memory = ⊥
ReplayFaultIsTrue schedule test Read = ⊥
ReplayFaultIsTrue schedule test Write = ⊥

-- The test exceeds the limit of lists that the fault names, and so has no list.
abbrev pub TestLimitFaultIsTrue : LitmusTest → ListFault → Type 0
TestLimitFaultIsTrue (Of_source test) = LimitFaultIsTrue source_language test.threads
TestLimitFaultIsTrue (Of_x86 test) = LimitFaultIsTrue x86_language test.threads

-- The fault of a report or a list of schedules is true of a test: it names a limit that the test exceeds.
abbrev pub ListFaultIsTrue : LitmusTest → BenchFault → Type 0
ListFaultIsTrue test f = (limit : ListFault) × (f ≡ Limit limit) × (limit ≢ list.Memory) × TestLimitFaultIsTrue test limit
