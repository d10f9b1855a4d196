-- At each round the initializers up to the cursor have been read (`AreReadElements`), the offsets are those of their
-- first tokens, and at most eight locations are named. If the rest fails as the rest of a block, the whole
-- fails as a block. The remaining tokens decrease.
use Rattle.lw_text.proofs.Common.{most_locations, ◌≤◌, [], length, IsSuffix, TokenList, remaining}
use Rattle.lw_text.proofs.Common.{remaining_texts, FailsInInitializers, FailsInBlock, TextCause}
use Rattle.lw_text.proofs.Common.{BeginInitializers}
use Rattle.lw_text.proofs.SiteLists.{initializer_kind}
use Rattle.lw_text.proofs.Readings.{AreReadElements}
use Rattle.lw_text.proofs.cursor.Cursor.parse_block.Given as goal

abbrev pub invariant-initializers : goal.invariant-initializers
invariant-initializers g l = record {
  read :
      AreReadElements (initializer_kind l.arch) l.fn.locs l.locs (remaining_texts l.fn.self) (remaining_texts l.self)
      l.initializers;
  advances : IsSuffix (remaining l.fn.self) (remaining l.self);
  places : BeginInitializers l.arch l.fn.self [] l.initializers;
  bounded : length l.locs ≤ most_locations;
  fails :
      (rest : TokenList) (cause : TextCause)
      → FailsInInitializers l.arch rest cause l.locs (remaining_texts l.self)
      → FailsInBlock l.arch l.fn.locs (remaining_texts l.fn.self) rest cause;
}

abbrev pub decreases-initializers : goal.decreases-initializers
decreases-initializers g l = length (remaining_texts l.self)
