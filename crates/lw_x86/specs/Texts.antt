-- The x86 test of a text.
use Rattle.lw_base.specs.Types.{Bytes}
use Rattle.lw_text.specs.Frames.{TestFrame, HasFrame}
use Rattle.lw_litmus.specs.Tests.{X86Test}
use Rattle.lw_x86.specs.Grammar.{HasProgram}

-- The text has a frame, and the frame's cells are the program.
pub record IsTextOf (text : Bytes) (program : X86Test) : Type 0 where
  pub frame : TestFrame
  pub has_frame : HasFrame text frame
  pub says : HasProgram frame program
