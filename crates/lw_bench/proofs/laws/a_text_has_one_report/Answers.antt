-- Law: a text has at most one report. It says at most one test, and a set of outcomes has one sorted list of
-- states, so one report.
use Rattle.lw_bench.proofs.Theorems.{one_report_of}
use Rattle.lw_bench.proofs.laws.a_text_has_one_report.Goals as goal

pub returns : goal.returns
returns c = one_report_of c.a_text_has_one_test.ensures
