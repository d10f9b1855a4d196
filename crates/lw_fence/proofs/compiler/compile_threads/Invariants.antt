-- At each round the first threads are compiled.
use Rattle.lw_fence.proofs.CompiledThreads.{AreCompiled}
use Rattle.lw_fence.proofs.compiler.compile_threads.Given as goal

abbrev pub invariant-loop-stmts : goal.invariant-loop-stmts
invariant-loop-stmts g l = AreCompiled l.source.threads l.stmts-index l.instrs l.starts
