-- The test of a text.
use Rattle.lw_base.specs.Types.{Bytes}
use Rattle.lw_text.specs.Frames.{TestFrame, HasFrame}
use Rattle.lw_source.specs.Grammar.{HasSource}
use Rattle.lw_x86.specs.Grammar.{HasProgram}
use Rattle.lw_bench.specs.LitmusTests.{LitmusTest, Of_source, Of_x86}

-- The frame is of the test's language, and its cells are the test.
abbrev pub FrameHasTest : TestFrame → LitmusTest → Type 0
FrameHasTest frame (Of_source test) = HasSource frame test
FrameHasTest frame (Of_x86 test) = HasProgram frame test

-- The text has a frame, whose cells are the test.
pub record HasTest (text : Bytes) (test : LitmusTest) : Type 0 where
  pub frame : TestFrame
  pub has_frame : HasFrame text frame
  pub says : FrameHasTest frame test
