-- `read_frame` promises the text's frame, or a fault that says why and where it has none. The goals by hand
-- tell the exits apart: a text that is too long or not UTF-8 has no frame for that reason only, and otherwise
-- the fault is that of `read_text`.
use Rattle.lw_text.proofs.Common.{NotUtf8, TooLong, arith, subst, sym, ◌∙◌, ◌≢◌, FailsAt}
use Rattle.lw_text.proofs.read.read_frame.Goals as goal

-- The two causes that concern a whole text differ.
NotUtf8-not_too_long : NotUtf8 ≢ TooLong
NotUtf8-not_too_long e = cc

pub returns-in-Err-clause-too_long : goal.returns-in-Err-clause-too_long
returns-in-Err-clause-too_long g c = λ long. absurd (omega arith)

pub returns-in-Err-clause-only_not_utf8 : goal.returns-in-Err-clause-only_not_utf8
returns-in-Err-clause-only_not_utf8 g c =
    λ _. rw c.valid_up_to.ensures (omega arith, c.in-Err.ensures.cases.0, c.in-Err.ensures.cases.1)

pub returns-in-Err-clause-fault : goal.returns-in-Err-clause-fault
returns-in-Err-clause-fault g c = λ _ frame has. c.in-Err.ensures.cases.0 has.utf8

pub returns-in-Err-clause-only_too_long : goal.returns-in-Err-clause-only_too_long
returns-in-Err-clause-only_too_long g c = λ e. absurd (NotUtf8-not_too_long e)

pub read_text-requires-clause-short : goal.read_text-requires-clause-short
read_text-requires-clause-short g c = omega arith

pub read_text-requires-clause-utf8 : goal.read_text-requires-clause-utf8
read_text-requires-clause-utf8 g c = c.in_default.ensures.cases.1

pub returns-in-Err-read_text-clause-fault : goal.returns-in-Err-read_text-clause-fault
returns-in-Err-read_text-clause-fault g c = λ ne. c.in-Err-read_text.ensures.0 (λ memory. ne (c.from.ensures.1 ∙ memory))

pub returns-in-Err-read_text-clause-fails : goal.returns-in-Err-read_text-clause-fails
returns-in-Err-read_text-clause-fails g c =
    λ long encoded memory.
    subst (λ cause. FailsAt c.args.text.now c.from.result.at cause) (sym c.from.ensures.1)
    (subst (λ at. FailsAt c.args.text.now at c.in-Err-read_text.fault.cause) (sym c.from.ensures.0)
    (c.in-Err-read_text.ensures.2 (λ e. memory (c.from.ensures.1 ∙ e))))
