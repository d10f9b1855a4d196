-- Proves `push_statement`, which appends a step for each instruction, and a drain after a store. The loop
-- appends the steps one by one; if memory runs out, the old events are still the first.
use Rattle.lw_fence.proofs.Common.{◌≡◌, ◌++◌, ◌∷◌, ◌∙◌, Bool, [], ap, append_assoc, arith, if◌then◌else◌}
use Rattle.lw_fence.proofs.Common.{replicate, sym, append-nil, replicate-append-replicate, Step, Drain}
use Rattle.lw_fence.proofs.Common.{is_store}
use Rattle.lw_fence.proofs.Scheduling.{OnErr-old_events_first}
use Rattle.lw_fence.proofs.schedule.push_statement.Goals as goal

pub loop-instr-preserved : goal.loop-instr-preserved
loop-instr-preserved g c =
    let old = c.args.events.now.items in
    let step = Step c.args.cpu in
    c.in_ok-push.ensures.items
    ∙ (ap (λ es. es ++ step ∷ []) c.loop-instr.invariant
    ∙ (append_assoc old (replicate c.loop-instr._instr step) (step ∷ [])
    ∙ ap (λ es. old ++ es) (replicate-append-replicate c.loop-instr._instr 1 step)))

-- The statement is a store, so a drain follows its steps.
pub returns-in_ok-push-2-clause-ok : goal.returns-in_ok-push-2-clause-ok
returns-in_ok-push-2-clause-ok g c =
    let old = c.args.events.now.items in
    let steps = replicate c.args.instructions (Step c.args.cpu) in
    let drain = Drain c.args.cpu ∷ [] in
    let all : c.loop-instr._instr ≡ c.args.instructions = omega (arith, c.loop-instr-test.false, c.loop-instr.auto._instr-end) in
    let stores = sym (c.is_store.ensures ∙ ap is_store c.operation.ensures) ∙ c.if-is_store.true in
    c.in_ok-push-2.ensures.items
    ∙ (ap (λ es. es ++ drain) (c.loop-instr.invariant ∙ ap (λ n. old ++ replicate n (Step c.args.cpu)) all)
    ∙ (append_assoc old steps drain ∙ ap (λ (b : Bool). old ++ (steps ++ (if b then drain else []))) (sym stores)))

-- The statement is no store, so its steps are all.
pub returns-else-is_store-clause-ok : goal.returns-else-is_store-clause-ok
returns-else-is_store-clause-ok g c =
    let old = c.args.events.now.items in
    let steps = replicate c.args.instructions (Step c.args.cpu) in
    let drain = Drain c.args.cpu ∷ [] in
    let all : c.loop-instr._instr ≡ c.args.instructions = omega (arith, c.loop-instr-test.false, c.loop-instr.auto._instr-end) in
    let stores_not = sym (c.is_store.ensures ∙ ap is_store c.operation.ensures) ∙ c.if-is_store.false in
    c.loop-instr.invariant
    ∙ (ap (λ n. old ++ replicate n (Step c.args.cpu)) all
    ∙ (ap (λ es. old ++ es) (sym (append-nil steps))
    ∙ ap (λ (b : Bool). old ++ (steps ++ (if b then drain else []))) (sym stores_not)))

pub returns-in_err-push-clause-err : goal.returns-in_err-push-clause-err
returns-in_err-push-clause-err g c =
    OnErr-old_events_first c.from_residual.result _ _ (c.in_err-push.ensures.items ∙ c.loop-instr.invariant)

pub returns-in_err-push-2-clause-err : goal.returns-in_err-push-2-clause-err
returns-in_err-push-2-clause-err g c =
    OnErr-old_events_first c.from_residual-in_err-push-2.result _ _ (c.in_err-push-2.ensures.items ∙ c.loop-instr.invariant)
