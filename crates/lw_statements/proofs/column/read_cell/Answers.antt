-- `read_cell` promises that a drafted column has one cell more, or that the thread is refused. Success adds
-- labels and draft (`ColumnDrafted-push`). The two exits by `?` refuse the whole thread, whatever its other cells are:
-- its labels fail (`ColumnRefused-LabelsRefused`) or its statement (`ColumnRefused-MaybeRefused`).
use Rattle.lw_statements.proofs.Common.{ℕ, ◌+◌, ap, arith, MatchResult-weaker, grammar_of, draft_of}
use Rattle.lw_statements.proofs.Common.{Err-clause_known}
use Rattle.lw_statements.proofs.api.Forms.{IsGrammar-of_spelling}
use Rattle.lw_statements.proofs.Drafts.{at_most_room, ColumnDrafted-push}
use Rattle.lw_statements.proofs.CellsRefused.{ColumnRefused-LabelsRefused, ColumnRefused-MaybeRefused}
use Rattle.lw_statements.proofs.CellsRefused.{ColumnRefused-out_of_memory}
use Rattle.lw_statements.proofs.column.read_cell.Goals as goal

pub after_labels-phrase-requires : goal.after_labels-phrase-requires
after_labels-phrase-requires g c = let taken = rw c.as_slice.ensures at c.in_ok-start.ensures in taken.read.within

pub returns-in_err-start : goal.returns-in_err-start
returns-in_err-start g c =
    let spelling = g.L.StatementReader.spelling in
    let told = rw c.as_slice.ensures at c.in_err-start.ensures in
    Err-clause_known _ _ _ c.from_residual.ensures.1 (λ front rest before drafted.
    ColumnRefused-LabelsRefused (grammar_of spelling)
    (IsGrammar-of_spelling spelling g.L.StatementReader.statement_of c.requires.lawful) (draft_of spelling) front before _ _
    drafted c.args.cell.now rest _ told)

pub returns-in_err-stmt : goal.returns-in_err-stmt
returns-in_err-stmt g c =
    let spelling = g.L.StatementReader.spelling in
    let taken = rw c.as_slice.ensures at c.in_ok-start.ensures in
    Err-clause_known _ _ _ c.from_residual-in_err-stmt.ensures.1 (λ front rest before drafted.
    ColumnRefused-MaybeRefused (grammar_of spelling)
    (IsGrammar-of_spelling spelling g.L.StatementReader.statement_of c.requires.lawful) (draft_of spelling) front before _ _
    drafted c.args.cell.now rest _ _ _ taken c.after_labels-phrase.result c.after_labels-phrase.ensures.tokens
    c.after_labels-phrase.ensures.end c.after_labels-phrase.ensures.within c.in_err-stmt.ensures)

-- If the labels and the statement were read, and the draft is appended, the cell is read.
pub returns : goal.returns
returns g c =
    let spelling = g.L.StatementReader.spelling in
    let taken = rw c.as_slice.ensures at c.in_ok-start.ensures in
    let stmt = rw c.after_labels-phrase.ensures.tokens at c.in_ok-stmt.ensures in
    MatchResult-weaker c.push.result c.push.ensures (λ done pushed front before drafted.
    ColumnDrafted-push (grammar_of spelling) (draft_of spelling) front before c.args.locs.now c.args.column.now drafted (record {
      cells = c.push.new.items;
      labels = c.read_labels.new.labels;
      count = c.args.column.now.count + c.statement_count.result;
    }) c.args.cell.now c.in_ok-start.start c.read_statement_if_any.new.locs c.in_ok-stmt.stmt taken stmt pushed
    (ap (λ (n : ℕ). c.args.column.now.count + n) c.statement_count.ensures) c.len-names.ensures.table.bounded)
    (λ f memory front rest before drafted. ColumnRefused-out_of_memory (grammar_of spelling) before _ f memory.0 memory.1)

pub overflow_add-column : goal.overflow_add-column
overflow_add-column g c = omega (
  arith,
  c.statement_count.ensures,
  at_most_room _ _ c.in_ok-stmt.stmt c.requires.bounded c.in_ok-stmt.ensures.room,
  c.requires.lawful.countable,
)
