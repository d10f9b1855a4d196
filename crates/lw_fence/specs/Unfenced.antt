-- A source test compiled with other fences than the compiler's, or with none.
use Rattle.std.specs.Prelude.{◌≡◌, ℕ, Bool, true, Some, List, [], length, slice_get}
use Rattle.lw_base.specs.Threads.{thread_code}
use Rattle.lw_base.specs.declared.head.Arch.TheVariants.{X86}
use Rattle.lw_litmus.specs.declared.stmt.Stmt.{Stmt}
use Rattle.lw_litmus.specs.declared.instr.Instr.{Instr}
use Rattle.lw_litmus.specs.Tests.{SourceTest, X86Test}
use Rattle.lw_fence.specs.Compiling.{lowered_code, starts_from}
use Rattle.lw_fence.specs.Fences.{NeedsFence}

-- The instructions, and the table of each statement's first one, are those of a thread with a fence before each load that the list marks,
-- needed or not. Statements past the end of the list get none.
pub record IsThreadWith (fences : List Bool) (code : List Stmt) (instrs : List Instr) (starts : List ℕ) : Type 0 where
  pub starts_are : starts ≡ starts_from 0 fences code
  pub instrs_are : instrs ≡ lowered_code starts fences code

-- The program has the source's head, in x86, and for each of its threads the instructions with these fences and starts.
pub record IsCompiledWith (fences : List (List Bool)) (source : SourceTest) (program : X86Test) (starts : List (List ℕ)) : Type 0 where
  pub head : program.head ≡ record source.head { arch = X86 }  -- The source's head, except the language.
  pub as_many : length program.threads ≡ length source.threads
  pub as_many_starts : length starts ≡ length source.threads
  pub threads :
      (t : ℕ) (code : List Stmt) (instrs : List Instr) (begins : List ℕ)
      → slice_get source.threads t ≡ Some code → slice_get program.threads t ≡ Some instrs → slice_get starts t ≡ Some begins
      → IsThreadWith (thread_code fences t) code instrs begins

-- The program is the compiled source if no fence is inserted.
abbrev pub IsCompiledWithoutFences : SourceTest → X86Test → List (List ℕ) → Type 0
IsCompiledWithoutFences = IsCompiledWith []

-- No statement of the source needs a fence by the compiler's rule.
abbrev pub NeedsNoFence : SourceTest → Type 0
NeedsNoFence source = (t j : ℕ) → NeedsFence (thread_code source.threads t) j → ⊥

-- Each fence of the first list is in the second.
abbrev pub AreSubset : List (List Bool) → List (List Bool) → Type 0
AreSubset fences others = (t j : ℕ) → slice_get (thread_code fences t) j ≡ Some true → slice_get (thread_code others t) j ≡ Some true
