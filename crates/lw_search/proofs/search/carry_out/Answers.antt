-- Proves `carry_out`, which carries out a drain, or the step of the thread's next instruction. The effect of the event is that of the
-- operation (`event_effect-of_instruction`), and at the end of the code the step is refused (`event_effect-at_end`).
use Rattle.lw_search.proofs.Common.{◌≡◌, ◌∙◌, Bool, ap, sym, refl, subst, slice_get, IfOk-weaker, Ended}
use Rattle.lw_search.proofs.Common.{Event, Step, Drain, if◌then◌else◌, ActResult, event_effect, event_of}
use Rattle.lw_search.proofs.Successors.{event_effect-of_instruction, event_effect-at_end}
use Rattle.lw_search.proofs.search.carry_out.Goals as goal

pub returns-then-is_drain : goal.returns-then-is_drain
returns-then-is_drain g c = λ locs.
    let e = c.args.event in
    let drains : event_of e ≡ Drain e.0 =
    ap (λ (b : Bool). if b then Drain e.0 else Step e.0) (sym c.is_drain.ensures ∙ c.if-is_drain.true) in
    subst (λ (f : Event).
    ActResult (event_effect c.args.program.now.threads locs f c.args.thread.now) c.args.thread.now c.args.words.now c.drain.result
    c.drain.new.self c.drain.new.words) (sym drains) c.drain.ensures

-- At the end of the code the step is refused.
pub returns-in_default : goal.returns-in_default
returns-in_default g c = λ locs.
    let e = c.args.event in
    let code = c.args.code.now in
    let steps : event_of e ≡ Step c.args.cpu =
    ap (λ (b : Bool). if b then Drain e.0 else Step e.0) (sym c.is_drain.ensures ∙ c.if-is_drain.false)
    ∙ ap Step c.requires.cpu in
    let end = ap (slice_get code) (sym c.position.ensures) ∙ sym c.instr_at.ensures ∙ c.in_default.is in (
      (
        Ended,
        ap (λ (f : Event). event_effect c.args.program.now.threads locs f c.args.thread.now) steps
            ∙ event_effect-at_end c.args.program.now.threads c.args.cpu code c.args.thread.now c.requires.code end locs,
      ),
      refl,
      refl,
    )

-- Otherwise the step does what the operation of the instruction does.
pub returns : goal.returns
returns g c =
    let program = c.args.program.now.threads in
    let thread = c.args.thread.now in
    let code = c.args.code.now in
    let e = c.args.event in
    let steps : event_of e ≡ Step c.args.cpu =
    ap (λ (b : Bool). if b then Drain e.0 else Step e.0) (sym c.is_drain.ensures ∙ c.if-is_drain.false)
    ∙ ap Step c.requires.cpu in
    let next = ap (slice_get code) (sym c.position.ensures) ∙ sym c.instr_at.ensures ∙ c.in-Some.is in
    IfOk-weaker c.carry_out.result _ _ (λ done result locs.
    subst (λ act. ActResult act thread c.args.words.now done c.carry_out.new.self c.carry_out.new.words)
    (sym (ap (λ (f : Event). event_effect program locs f thread) steps
    ∙ event_effect-of_instruction program c.args.cpu code thread c.in-Some.instr c.operation.result c.requires.code next
    c.operation.ensures locs)) result) c.carry_out.ensures
