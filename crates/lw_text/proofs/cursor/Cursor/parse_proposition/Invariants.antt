-- At each round the terminals up to the cursor have been read, and `reader` is in the state after them
-- (`TerminalsRead`). If the rest fails from this state on, the whole fails as a proposition. The remaining
-- tokens decrease.
use Rattle.lw_text.proofs.Common.{length, IsSuffix, TokenList, remaining, remaining_texts, state_of}
use Rattle.lw_text.proofs.Common.{FailsInProposition, first_place, TextCause, place_of}
use Rattle.lw_text.proofs.PropositionCases.{TerminalsRead}
use Rattle.lw_text.proofs.cursor.Cursor.parse_proposition.Given as goal

abbrev pub invariant-terminals : goal.invariant-terminals
invariant-terminals g l = record {
  read : TerminalsRead l.arch l.threads l.fn.locs l.locs (remaining_texts l.fn.self) (remaining_texts l.self) l.nodes l.reader;
  advances : IsSuffix (remaining l.fn.self) (remaining l.self);
  fails :
      (rest : TokenList) (cause : TextCause)
      → FailsInProposition l.arch l.threads rest cause (place_of (state_of l.reader)) l.nodes l.locs (remaining_texts l.self)
      → FailsInProposition l.arch l.threads rest cause first_place 0 l.fn.locs (remaining_texts l.fn.self);
}

abbrev pub decreases-terminals : goal.decreases-terminals
decreases-terminals g l = length (remaining_texts l.self)
