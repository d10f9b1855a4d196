-- The compilation of a test.
use Rattle.std.specs.Prelude.{◌≡◌, ◌↔◌, ℕ, List}
use Rattle.lw_base.specs.Outcomes.{FinalState}
use Rattle.lw_base.specs.Types.{Bytes}
use Rattle.lw_fence.specs.Compiling.{IsCompiled}
use Rattle.lw_mesi.specs.declared.protocol.Protocol.{Protocol}
use Rattle.lw_interleaving.specs.Runs.{SourceOutcome}
use Rattle.lw_litmus.specs.Tests.{SourceTest, X86Test}
use Rattle.lw_x86.specs.CanonicalTexts.{canonical_text}
use Rattle.lw_bench.specs.LitmusTests.{LitmusTest, Of_source, Of_x86}
use Rattle.lw_tso_caches.specs.OverCaches.{OutcomeOverCaches}

-- The text is the canonical text of a source test's compiled program, which reaches on the whole machine, over all steps, drains and
-- evictions, exactly the outcomes that the source reaches by interleaving on one memory.
pub record IsCompiledText (test : SourceTest) (text : Bytes) : Type 0 where
  pub program : X86Test
  pub starts : List (List ℕ)
  pub compiled : IsCompiled test program starts
  pub text_is : text ≡ canonical_text program
  pub outcomes : (protocol : Protocol) (o : FinalState) → OutcomeOverCaches protocol program o ↔ SourceOutcome test o

-- The text is the compilation of a test: of a source test the text of its compiled program, of an x86 test its own canonical text.
abbrev pub IsCompilation : LitmusTest → Bytes → Type 0
IsCompilation (Of_source test) text = IsCompiledText test text
IsCompilation (Of_x86 test) text = text ≡ canonical_text test
