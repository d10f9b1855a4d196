-- `make` promises the requested output of the test, and how its list was made. Immediate: each arm passes on
-- what its callee ensures.
use Rattle.lw_beyond.proofs.lists.make.Goals as goal

pub returns-in-States-clause-made : goal.returns-in-States-clause-made
returns-in-States-clause-made g c = rw c.in-States.is c.make_report.ensures.made

pub returns-in-Schedules-clause-made : goal.returns-in-Schedules-clause-made
returns-in-Schedules-clause-made g c = rw c.in-Schedules.is c.make_schedules.ensures.made

pub returns-in-Marks-clause-made : goal.returns-in-Marks-clause-made
returns-in-Marks-clause-made g c = rw c.in-Marks.is c.make_marks.ensures.made
