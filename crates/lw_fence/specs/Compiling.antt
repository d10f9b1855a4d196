-- The result of compiling a source test: for each statement its lowering, with an MFENCE before each load that needs one, and before no
-- other. docs/FORMAT.md has the same table.
use Rattle.std.specs.Prelude.{◌≡◌, ◌↔◌, ℕ, ◌+◌, ◌==◌, Bool, true, false, if◌then◌else◌, Some, List, [], ◌∷◌, ◌++◌, length, slice_get, slice_index}
use Rattle.lw_base.specs.declared.head.Arch.TheVariants.{X86}
use Rattle.lw_base.specs.declared.operand.Operand.{Operand}
use Rattle.lw_base.specs.declared.operand.Operand.TheVariants.{Register, Number}
use Rattle.lw_litmus.specs.declared.stmt.Stmt.{Stmt}
use Rattle.lw_litmus.specs.declared.stmt.Stmt.TheVariants.{Store, Load, Swap, FetchAdd, Set, Sum, IfEq, IfNe, Goto}
use Rattle.lw_litmus.specs.Tests.{SourceTest, X86Test}
use Rattle.lw_litmus.specs.declared.instr.Instr.{Instr}
use Rattle.lw_litmus.specs.declared.instr.Instr.TheVariants as x86
use Rattle.lw_fence.specs.declared.lowered.Lowered.{Lowered}
use Rattle.lw_fence.specs.declared.lowered.Lowered.TheVariants.{One, Two}
use Rattle.lw_fence.specs.Fences.{NeedsFence}

-- An instruction, after a fence or without one.
abbrev pub with_fence_if : Bool → Instr → Lowered
with_fence_if fence last = if fence then Two x86.Mfence last else One last

-- An instruction, after a move of register a to register d, if they differ.
abbrev pub with_move_if : ℕ → ℕ → Instr → Lowered
with_move_if d a last = if d == a then One last else Two (x86.Set d (Register a)) last

-- `d := a + v`. If v is d itself, a is added to it.
abbrev pub lower_sum : ℕ → ℕ → Operand → Lowered
lower_sum d a (Number n) = with_move_if d a (x86.Add d (Number n))
lower_sum d a (Register b) = if d == b then One (x86.Add d (Register a)) else with_move_if d a (x86.Add d (Register b))

-- The comparison that sets the zero flag if the register has the word.
abbrev pub lower_compare : ℕ → ℕ → Instr
lower_compare a n = x86.Cmp a (Number n)

-- The lowering of a statement, with a fence or without, by a table `starts` of each statement's first instruction.
abbrev pub lowered : List ℕ → Bool → Stmt → Lowered
lowered starts fence (Store x v) = One (x86.Store x v)
lowered starts fence (Load d x) = with_fence_if fence (x86.Load d x)
lowered starts fence (Swap d x a) = with_move_if d a (x86.Xchg x d)
lowered starts fence (FetchAdd d x a) = with_move_if d a (x86.Xadd x d)
lowered starts fence (Set d v) = One (x86.Set d v)
lowered starts fence (Sum d a v) = lower_sum d a v
lowered starts fence (IfEq a n to) = Two (lower_compare a n) (x86.Je (slice_index starts to))
lowered starts fence (IfNe a n to) = Two (lower_compare a n) (x86.Jne (slice_index starts to))
lowered starts fence (Goto to) = One (x86.Jmp (slice_index starts to))

-- The instructions of a lowering, one or two.
abbrev pub instrs_of : Lowered → List Instr
instrs_of (One i) = i ∷ []
instrs_of (Two i j) = i ∷ j ∷ []

-- The lowerings of statements, concatenated.
abbrev pub lowered_code : List ℕ → List Bool → List Stmt → List Instr
lowered_code starts fences [] = []
lowered_code starts [] (s ∷ code) = instrs_of (lowered starts false s) ++ lowered_code starts [] code
lowered_code starts (fence ∷ fences) (s ∷ code) = instrs_of (lowered starts fence s) ++ lowered_code starts fences code

-- The index of each statement's first instruction, its fence included, and at the end the number of instructions. The first statement
-- begins at n.
abbrev pub starts_from : ℕ → List Bool → List Stmt → List ℕ
starts_from n fences [] = n ∷ []
starts_from n [] (s ∷ code) = n ∷ starts_from (n + length (instrs_of (lowered [] false s))) [] code
starts_from n (fence ∷ fences) (s ∷ code) = n ∷ starts_from (n + length (instrs_of (lowered [] fence s))) fences code

-- The instructions are those of the compiled thread. The table `starts` has the index of each statement's first instruction, and at the
-- end the number of instructions.
pub record IsCompiledThread (code : List Stmt) (instrs : List Instr) (starts : List ℕ) : Type 0 where
  pub fences : List Bool
  pub as_many : length fences ≡ length code
  pub needed : (j : ℕ) → (slice_get fences j ≡ Some true) ↔ NeedsFence code j
  pub starts_are : starts ≡ starts_from 0 fences code
  pub instrs_are : instrs ≡ lowered_code starts fences code

-- The program has the source's head, in x86, and the compiled threads. In `starts`, each thread has a table of the indices at which its
-- statements start, and at the end the number of its instructions.
pub record IsCompiled (source : SourceTest) (program : X86Test) (starts : List (List ℕ)) : Type 0 where
  pub head : program.head ≡ record source.head { arch = X86 }  -- The source's head, except the language.
  pub as_many : length program.threads ≡ length source.threads
  pub as_many_starts : length starts ≡ length source.threads
  pub threads :
      (t : ℕ) (code : List Stmt) (instrs : List Instr) (begins : List ℕ)
      → slice_get source.threads t ≡ Some code → slice_get program.threads t ≡ Some instrs → slice_get starts t ≡ Some begins
      → IsCompiledThread code instrs begins
