-- `skip_notes` promises to skip the notes, or to fail where they do. The one goal by hand is the lexer's
-- invariant: what follows the notes is a suffix of the text (`Notes-suffix`).
use Rattle.lw_text.proofs.Common.{arith, ap, length, length-append}
use Rattle.lw_text.proofs.NoteRows.{Notes-suffix}
use Rattle.lw_text.proofs.lexer.Lexer.skip_notes.Goals as goal

pub invariant_of-self : goal.invariant_of-self
invariant_of-self c =
    let n = Notes-suffix c.in-Ok.ensures in
    record { within = omega (arith, c.args.self.now.within, ap length n.1, length-append n.0 c.in-Ok.rest.now) }
