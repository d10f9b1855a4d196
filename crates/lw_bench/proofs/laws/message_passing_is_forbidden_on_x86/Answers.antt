-- Law: no outcome of message passing over caches has the flag without the message. The outcome is one over
-- flat memory, where `message_passing_forbidden` holds by a computed search of all runs.
use Rattle.lw_bench.proofs.Common.{IsWellScoped-well_formed, x86_language, message_passing_in_x86}
use Rattle.lw_bench.proofs.Classics.{IsWellFormedProgram-message_passing, message_passing_forbidden}
use Rattle.lw_bench.proofs.laws.message_passing_is_forbidden_on_x86.Goals as goal

pub returns : goal.returns
returns c protocol o reached =
    let ok = IsWellScoped-well_formed x86_language IsWellFormedProgram-message_passing in
    let over =
    c.outcomes_over_caches_are_flat.ensures protocol message_passing_in_x86 o ok
    IsWellFormedProgram-message_passing.head.bounded in
    message_passing_forbidden o (over.0 reached)
