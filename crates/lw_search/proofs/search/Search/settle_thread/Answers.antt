-- Proves `settle_thread`, which loads a thread of a key and takes its invisible events. From a state in
-- which the thread has its row (`IsLoaded-of_working`) they lead to one with the thread's new row (`SettlesFrom-loaded`). If the run did not grow, no event was taken,
-- and the old key is right (`SettlesFrom-unmoved`).
use Rattle.lw_search.proofs.Common.{◌≡◌, ◌∙◌, length, ap, sym, slice_get, IsLoaded, IsWorking, State}
use Rattle.lw_search.proofs.Common.{RepresentsThreads, HasConflictsOfOthers}
use Rattle.lw_search.proofs.Settling.{DescribeState-same_program, SettlesFrom-loaded, SettlesFrom-none}
use Rattle.lw_search.proofs.Settling.{SettlesFrom-unmoved, SettlesFrom-mono, IsLoaded-of_working}
use Rattle.lw_search.proofs.ThreadTransitions.{copied-row}
use Rattle.lw_search.proofs.search.Search.settle_thread.Goals as goal

pub returns-then-not-may_settle-clause-settled : goal.returns-then-not-may_settle-clause-settled
returns-then-not-may_settle-clause-settled g c =
    SettlesFrom-none c.args.self.now.program.now.threads c.args.key.now c.args.self.now.words c.args.self.now.run

-- If the run did not grow, no event was taken, and the old key is right.
pub returns-then-len-count-clause-settled : goal.returns-then-len-count-clause-settled
returns-then-len-count-clause-settled g c =
    let program = c.args.self.now.program.now.threads in
    let tables = c.args.self.now.tables in
    let set = c.conflicts_with_others.result in
    let are_conflicts : (s : State)
    → RepresentsThreads tables c.args.key.now s
    → length s.processors ≡ length program
    → HasConflictsOfOthers program s c.args.cpu set = λ s is_represented as_many.
    c.conflicts_with_others.ensures program s
    (DescribeState-same_program program c.args.key.now c.outlooks-outlooks.result.threads s c.requires.of_program
    (c.outlooks-outlooks.ensures s) is_represented as_many) in
    let a = c.in_ok-settle.ensures in
    SettlesFrom-unmoved program c.args.key.now set c.args.cpu c.load_thread.new.thread c.settle.new.thread c.args.self.now.words
    c.settle.new.words c.args.self.now.run c.settle.new.run a.0 a.1
    (sym c.len.ensures ∙ c.if-len-count.true ∙ c.len-count.ensures) a.2 (λ s.
    IsLoaded-of_working program c.args.key.now set c.args.cpu c.args.code.now c.load_thread.new.thread c.args.self.now.words s
    c.requires.code (copied-row _ _ _ c.in_ok-load_thread.ensures) (are_conflicts s))

-- Otherwise the events lead to a state with the thread's new number.
pub returns-clause-settled : goal.returns-clause-settled
returns-clause-settled g c =
    let program = c.args.self.now.program.now.threads in
    let tables = c.args.self.now.tables in
    let set = c.conflicts_with_others.result in
    let are_conflicts : (s : State)
    → RepresentsThreads tables c.args.key.now s
    → length s.processors ≡ length program
    → HasConflictsOfOthers program s c.args.cpu set = λ s is_represented as_many.
    c.conflicts_with_others.ensures program s
    (DescribeState-same_program program c.args.key.now c.outlooks-outlooks.result.threads s c.requires.of_program
    (c.outlooks-outlooks.ensures s) is_represented as_many) in
    let a = c.in_ok-settle.ensures in
    SettlesFrom-mono program
    (IsLoaded program tables c.args.key.now set c.args.cpu c.load_thread.new.thread c.args.self.now.words)
    (IsWorking program tables c.args.key.now c.args.self.now.words) c.with_numbers-next.result c.settle.new.words
    c.args.self.now.run c.settle.new.run (λ s.
    IsLoaded-of_working program c.args.key.now set c.args.cpu c.args.code.now c.load_thread.new.thread c.args.self.now.words s
    c.requires.code (copied-row _ _ _ c.in_ok-load_thread.ensures) (are_conflicts s))
    (SettlesFrom-loaded program c.args.key.now c.with_numbers-next.result set c.args.cpu c.load_thread.new.thread
    c.settle.new.thread c.args.self.now.words c.settle.new.words c.args.self.now.run c.settle.new.run a.0 a.1 a.2
    c.in_ok-thread.ensures.extended c.with_numbers-next.ensures.size
    (ap (slice_get c.thread_number.new.self.threads) c.with_numbers-next.ensures.thread ∙ c.in_ok-thread.ensures.found)
    c.with_numbers-next.ensures.others)
