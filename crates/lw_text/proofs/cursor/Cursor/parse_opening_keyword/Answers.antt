-- `parse_opening_keyword` promises the keyword or sign that is next and begins a part. The one goal by hand
-- is `None`: if none of the five words is next, a terminal that begins a part is an atom of a site
-- (`terminal_is_claim`).
use Rattle.lw_text.proofs.Common.{refl}
use Rattle.lw_text.proofs.TerminalLists.{terminal_is_claim}
use Rattle.lw_text.proofs.cursor.Cursor.parse_opening_keyword.Goals as goal

-- If none of the five words is next, a terminal that begins a part is the atom of a site.
pub returns-clause-none : goal.returns-clause-none
returns-clause-none c =
    let one = c.if-accept.ensures.kept refl in
    let two = c.if-accept-2.ensures.kept refl in
    let three = c.if-accept-3.ensures.kept refl in
    let four = c.if-accept-4.ensures.kept refl in
    let tilde = rw one at (c.accept-2.ensures.other c.if-accept-2.false) in
    let word_not = rw (two, one) at (c.accept-3.ensures.other c.if-accept-3.false) in
    let word_true = rw (three, two, one) at (c.accept-4.ensures.other c.if-accept-4.false) in
    let word_false = rw (four, three, two, one) at (c.accept-5.ensures.other c.if-accept-5.false) in
    λ arch threads.
    terminal_is_claim arch threads _ (c.accept.ensures.other c.if-accept.false) tilde word_not word_true word_false
