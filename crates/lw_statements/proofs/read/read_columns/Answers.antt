-- `read_columns` promises the statements of all threads, or a refusal. Each round reads one thread, with the
-- table that the threads before it left (`ColumnsRead-push`); a refused thread refuses all (`ColumnsRefused-ColumnRefused`).
use Rattle.lw_statements.proofs.Common.{refl, [], take_all, grammar_of, Err-clause_known}
use Rattle.lw_statements.proofs.Threads.{ColumnsRefused-out_of_memory, ColumnsRead-push}
use Rattle.lw_statements.proofs.Threads.{ColumnsRefused-ColumnRefused}
use Rattle.lw_statements.proofs.api.Forms.{IsGrammar-of_spelling}
use Rattle.lw_statements.proofs.read.read_columns.Goals as goal

pub loop-column-init : goal.loop-column-init
loop-column-init g c = rw c.new-threads.ensures (record { syntax = []; says = tt; names = refl; made = refl })

pub returns-in_err-stmts : goal.returns-in_err-stmts
returns-in_err-stmts g c =
    let spelling = g.L.StatementReader.spelling in
    Err-clause_known _ _ _ c.from_residual.ensures.1
    (ColumnsRefused-ColumnRefused (grammar_of spelling) c.args.columns.now c.loop-column.column-index c.column-item.result
    c.loop-column-test.true c.column-item.is _ _ _ c.loop-column.invariant
    (IsGrammar-of_spelling spelling g.L.StatementReader.statement_of c.requires.lawful) _
    (rw c.as_slice.ensures at c.in_err-stmts.ensures))

pub loop-column-preserved : goal.loop-column-preserved
loop-column-preserved g c =
    rw c.in_ok-push.ensures
    (ColumnsRead-push (grammar_of g.L.StatementReader.spelling) c.args.columns.now c.loop-column.column-index c.column-item.result
    c.loop-column-test.true c.column-item.is _ _ _ c.loop-column.invariant _ _ (rw c.as_slice.ensures at c.in_ok-stmts.ensures))

pub returns-in_err-push : goal.returns-in_err-push
returns-in_err-push g c =
    Err-clause_known _ _ _ c.from_residual-in_err-push.ensures.1
    (ColumnsRefused-out_of_memory _ c.args.locs.now c.args.columns.now _ c.in_err-push.ensures.0 c.in_err-push.ensures.1)

pub returns : goal.returns
returns g c = rw (take_all c.loop-column.column-index c.args.columns.now c.loop-column-test.false) at c.loop-column.invariant
