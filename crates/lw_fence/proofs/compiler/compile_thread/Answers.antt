-- Proves `compile_thread`: instructions and starts are those of a compiled thread. The three clauses are
-- those of the functions called: the fences are the needed ones, the starts follow from the fences, and the
-- instructions from both.
use Rattle.lw_fence.proofs.Common.{ap, ap₂, ◌∙◌, lowered_code, starts_from}
use Rattle.lw_fence.proofs.compiler.compile_thread.Goals as goal

-- The fences are the needed ones, the starts follow from them, and the instructions from both.
pub returns : goal.returns
returns g c = record {
  fences = c.in_ok-fences.fences.items;
  as_many = c.in_ok-fences.ensures.as_many;
  needed = c.in_ok-fences.ensures.needed;
  starts_are = c.in_ok-starts.ensures ∙ ap (λ fences. starts_from 0 fences c.args.stmts.now) c.as_slice.ensures.value;
  instrs_are =
      c.in_ok-instrs.ensures
      ∙ ap₂ (λ starts fences. lowered_code starts fences c.args.stmts.now) c.as_slice-3.ensures c.as_slice-2.ensures.value;
}
