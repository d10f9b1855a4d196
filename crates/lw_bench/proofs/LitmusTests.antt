-- A frame says at most one test, of its own language, and at most one fault of its cells is true. The law
-- that a text has one test cites it.
use Rattle.lw_bench.proofs.Common.{NameTable, PlacedCell, ◌≡◌, sym, ap, ◌∙◌, Arch, Source, X86, TestFrame}
use Rattle.lw_bench.proofs.Common.{SourceTest, X86Test, HoldsOfNothing, HasSource, HasProgram, LitmusTest}
use Rattle.lw_bench.proofs.Common.{Of_source, Of_x86, FrameHasTest, List, CellFault, CellFaultIsTrue}
use Rattle.lw_bench.proofs.Common.{source_grammar, x86_grammar, CellFaultIsTrueIn}
use Rattle.lw_base.specs.declared.fault.CellCause.TheVariants as cell

-- The two languages differ.
not-Source_eq_X86 : (let arch : Arch = Source in arch) ≡ X86 → ⊥
not-Source_eq_X86 same = cc

-- A frame of the source language that says no source test says no test.
pub no_test-if_no_source : (frame : TestFrame)
    → frame.head.arch ≡ Source
    → HoldsOfNothing (HasSource frame)
    → HoldsOfNothing (FrameHasTest frame)
no_test-if_no_source frame is none (Of_source s) says = none s says
no_test-if_no_source frame is none (Of_x86 t) says = absurd (not-Source_eq_X86 (sym is ∙ says.arch))

-- A frame of x86 that says no x86 test says no test.
pub no_test-if_no_program : (frame : TestFrame)
    → frame.head.arch ≡ X86
    → HoldsOfNothing (HasProgram frame)
    → HoldsOfNothing (FrameHasTest frame)
no_test-if_no_program frame is none (Of_source s) says = absurd (not-Source_eq_X86 (sym says.arch ∙ is))
no_test-if_no_program frame is none (Of_x86 t) says = none t says

module _ (one_source : (frame : TestFrame) (s t : SourceTest) → HasSource frame s → HasSource frame t → s ≡ t)
    (one_program : (frame : TestFrame) (p q : X86Test) → HasProgram frame p → HasProgram frame q → p ≡ q)
  where
    -- A frame says at most one test: of its language, since the other language's tests need another head.
    pub FrameHasTest-unique : (frame : TestFrame) (s t : LitmusTest) → FrameHasTest frame s → FrameHasTest frame t → s ≡ t
    FrameHasTest-unique frame (Of_source s) (Of_source t) says other = ap Of_source (one_source frame s t says other)
    FrameHasTest-unique frame (Of_source s) (Of_x86 t) says other = absurd (not-Source_eq_X86 (sym says.arch ∙ other.arch))
    FrameHasTest-unique frame (Of_x86 s) (Of_source t) says other = absurd (not-Source_eq_X86 (sym other.arch ∙ says.arch))
    FrameHasTest-unique frame (Of_x86 s) (Of_x86 t) says other = ap Of_x86 (one_program frame s t says other)

-- If at most one fault is true of the same cells in each language, it is so in the language of a text.
pub cell_fault-unique : ((names : NameTable) (cells : List (List PlacedCell)) (f g : CellFault)
    → (f.cause ≡ cell.Memory → ⊥)
    → (g.cause ≡ cell.Memory → ⊥)
    → CellFaultIsTrue source_grammar names cells f
    → CellFaultIsTrue source_grammar names cells g
    → f ≡ g)
    → ((names : NameTable) (cells : List (List PlacedCell)) (f g : CellFault)
    → (f.cause ≡ cell.Memory → ⊥)
    → (g.cause ≡ cell.Memory → ⊥)
    → CellFaultIsTrue x86_grammar names cells f
    → CellFaultIsTrue x86_grammar names cells g
    → f ≡ g)
    → (arch : Arch) (names : NameTable) (cells : List (List PlacedCell)) (f g : CellFault)
    → (f.cause ≡ cell.Memory → ⊥)
    → (g.cause ≡ cell.Memory → ⊥)
    → CellFaultIsTrueIn arch names cells f
    → CellFaultIsTrueIn arch names cells g
    → f ≡ g
cell_fault-unique source x86 Source = source
cell_fault-unique source x86 X86 = x86
