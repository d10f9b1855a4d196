-- `write_end` promises the line of how a replay ended. One goal for each arm of the match: the arm's text is
-- the text of that end (`end_line-written`, and `end_text-Stopped` for a rejected event with its number and cause).
use Rattle.lw_bench.proofs.Common.{codes, refl, OnOk-push_str, written-equal_text}
use Rattle.lw_bench.proofs.Pages.{end_line-written, end_text-Stopped}
use Rattle.lw_bench.proofs.page.write_end.Goals as goal

pub returns-in-Final : goal.returns-in-Final
returns-in-Final g c =
    end_line-written c.push_str.result _ _ (codes "Final\n") c.args.replay.done c.in-Final.is refl
    (OnOk-push_str c.push_str.result _ _ (codes "Final\n") c.push_str.ensures.bytes)

pub returns-in-NotFinal : goal.returns-in-NotFinal
returns-in-NotFinal g c =
    end_line-written c.push_str-in-NotFinal.result _ _ (codes "NotFinal\n") c.args.replay.done c.in-NotFinal.is refl
    (OnOk-push_str c.push_str-in-NotFinal.result _ _ (codes "NotFinal\n") c.push_str-in-NotFinal.ensures.bytes)

pub returns-in-Stopped : goal.returns-in-Stopped
returns-in-Stopped g c =
    written-equal_text c.writeln.result _ _ _ _
    (end_text-Stopped _ c.code-code.result c.name-name.result.now _ c.args.replay.end c.in-Stopped.is c.code-code.ensures
    c.name-name.ensures) c.writeln.ensures.bytes
