-- Proves `insert_into`, which inserts an item into one set of a table. Two cases for the set that is read:
-- the one that is written, or another.
use Rattle.lw_orders.proofs.Common.{arith, nat_tests, cases_eq, get_or-set_same, get_or-set_other}
use Rattle.lw_orders.proofs.adjacency.insert_into.Goals as goal

pub returns : goal.returns
returns c i j li lj = grind (arith, nat_tests, c.with.ensures j lj, cases_eq c.args.at i, get_or-set_same, get_or-set_other)
