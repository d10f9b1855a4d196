-- At each round the names of the threads before the index have been read, each with its `|` (`NamesContinueAt`). If
-- the rest fails from this thread on, the whole fails as a header.
use Rattle.lw_text.proofs.Common.{IsSuffix, TokenList, remaining, remaining_texts, FailsInHeader, TextCause}
use Rattle.lw_text.proofs.Headers.{NamesContinueAt}
use Rattle.lw_text.proofs.cursor.Cursor.parse_header.Given as goal

abbrev pub invariant-loop-thread : goal.invariant-loop-thread
invariant-loop-thread l = record {
  names : NamesContinueAt (remaining_texts l.fn.self) l.thread (remaining_texts l.self);
  advances : IsSuffix (remaining l.fn.self) (remaining l.self);
  fails :
      (rest : TokenList) (cause : TextCause)
      → FailsInHeader rest cause l.thread (remaining_texts l.self)
      → FailsInHeader rest cause 0 (remaining_texts l.fn.self);
}
