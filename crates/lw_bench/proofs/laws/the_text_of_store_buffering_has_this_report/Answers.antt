-- Law: the bytes of the example are a text of store buffering (`HasTest-store_buffering`), and the bytes of its
-- report are the report of exactly its outcomes (`IsStatesReport-store_buffering`). Both are proved from the
-- definitions, without the code.
use Rattle.lw_bench.proofs.Common.{Of_x86, store_buffering_in_x86}
use Rattle.lw_bench.proofs.ExampleReports.{IsStatesReport-store_buffering}
use Rattle.lw_bench.proofs.ExampleTexts.{HasTest-store_buffering}
use Rattle.lw_bench.proofs.laws.the_text_of_store_buffering_has_this_report.Goals as goal

pub returns : goal.returns
returns c =
    record { test = Of_x86 store_buffering_in_x86; has_test = HasTest-store_buffering; is_made = IsStatesReport-store_buffering }
