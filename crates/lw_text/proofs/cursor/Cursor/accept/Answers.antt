-- `accept` promises to advance past this text if it is next, and to stay otherwise. If the test passes, the
-- next token is the first of the remaining ones (`word_next`).
use Rattle.lw_text.proofs.Common.{sym, ◌∙◌}
use Rattle.lw_text.proofs.Texts.{word_next}
use Rattle.lw_text.proofs.cursor.Cursor.accept.Goals as goal

pub returns-then-is_next-clause-taken : goal.returns-then-is_next-clause-taken
returns-then-is_next-clause-taken c =
    λ _. (word_next c.args.self.now.tokens.now c.args.self.now.next c.args.text.now (sym c.is_next.ensures ∙ c.if-is_next.true)).1

pub returns-then-is_next-clause-advances : goal.returns-then-is_next-clause-advances
returns-then-is_next-clause-advances c =
    (word_next c.args.self.now.tokens.now c.args.self.now.next c.args.text.now (sym c.is_next.ensures ∙ c.if-is_next.true)).2
