-- `render_text` promises the output for the text's test, or a fault that is true of the text. A fault of
-- reading is true of the text by `read_test`; a fault of rendering is true of the test, so of the text that
-- says this test (`RunFaultIsTrue-of_test`).
use Rattle.lw_bench.proofs.Common.{inl, IfOk-weaker, IfErr-weaker, Err-clause_propagated, litmus_test_of}
use Rattle.lw_bench.proofs.FaultTruths.{RunFaultIsTrue-of_test}
use Rattle.lw_bench.proofs.render.render_text.Goals as goal

pub returns-in_err-test-clause-fault : goal.returns-in_err-test-clause-fault
returns-in_err-test-clause-fault g c = Err-clause_propagated _ _ c.from_residual.ensures.1 (inl c.in_err-test.ensures.fault)

pub returns-in_err-test-clause-device : goal.returns-in_err-test-clause-device
returns-in_err-test-clause-device g c = Err-clause_propagated _ _ c.from_residual.ensures.1 c.in_err-test.ensures.device

pub returns-clause-found : goal.returns-clause-found
returns-clause-found g c =
    IfOk-weaker c.render-made.result _ _
    (λ x made. record { test = litmus_test_of c.in_ok-test.test; has_test = c.in_ok-test.ensures.found; is_made = made })
    c.render-made.ensures.found

pub returns-clause-fault : goal.returns-clause-fault
returns-clause-fault g c =
    IfErr-weaker c.render-made.result _ _ (λ f told.
    RunFaultIsTrue-of_test (g.O.Renderer.fault_is_true c.args.output.now) c.args.text.now _ f c.in_ok-test.ensures.found told)
    c.render-made.ensures.fault
