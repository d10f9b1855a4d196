-- `check_threads` promises success if and only if each initializer's thread exists, and otherwise the first
-- whose thread does not. Only success is answered by hand: at the loop's end the initializers that passed are
-- all (`whole_list-at_end`).
use Rattle.lw_text.proofs.Common.{list_all, thread_exists}
use Rattle.lw_text.proofs.Starts.{whole_list-at_end}
use Rattle.lw_text.proofs.block.check_threads.Goals as goal

pub returns-clause-ok : goal.returns-clause-ok
returns-clause-ok c =
    whole_list-at_end (list_all (λ e. thread_exists c.args.threads e.site)) c.args.initializers.now
    c.loop-initializer.initializer-index _ c.loop-initializer-test.false c.loop-initializer.invariant
