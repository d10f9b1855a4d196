-- Properties of operations, for both languages, one table for each. What the crates say of a statement or an instruction is defined by
-- these tables.
use Rattle.std.specs.Prelude.{◌≡◌, ◌+◌, ◌==◌, ◌++◌, ℕ, Bool, true, false, not, ◌||◌, ◌⊎◌, Option, Some, None, List, [], ◌∷◌, slice_index}
use Rattle.std.specs.Option.{option_to_list}
use Rattle.lw_base.specs.Threads.{operand_value}
use Rattle.lw_base.specs.declared.change.Change.{Change}
use Rattle.lw_base.specs.declared.change.Change.TheVariants as change
use Rattle.lw_litmus.specs.Operands.{operand_registers, operand_numbers}
use Rattle.lw_litmus.specs.declared.operation.Guard.{Guard}
use Rattle.lw_litmus.specs.declared.operation.Guard.TheVariants.{Always, Equal, NotEqual, Zero, NotZero}
use Rattle.lw_litmus.specs.declared.operation.Operation.{Operation}
use Rattle.lw_litmus.specs.declared.operation.Operation.TheVariants.{Set, Sum, Compare, Store, Load, Swap, FetchAdd, Fence, Branch}

-- The location that the operation reads or writes, if it accesses one.
abbrev pub location_of : Operation → Option ℕ
location_of (Set d v) = None
location_of (Sum d a v) = None
location_of (Compare a v) = None
location_of (Store x v) = Some x
location_of (Load d x) = Some x
location_of (Swap d x a) = Some x
location_of (FetchAdd d x v) = Some x
location_of Fence = None
location_of (Branch c to) = None

-- How the operation changes its location's word, for these registers. `None` if it does not write.
abbrev pub written_change : Operation → List ℕ → Option Change
written_change (Set d v) regs = None
written_change (Sum d a v) regs = None
written_change (Compare a v) regs = None
written_change (Store x v) regs = Some (change.Put (operand_value v regs))
written_change (Load d x) regs = None
written_change (Swap d x a) regs = Some (change.Put (slice_index regs a))
written_change (FetchAdd d x v) regs = Some (change.Add (operand_value v regs))
written_change Fence regs = None
written_change (Branch c to) regs = None

-- Tests whether the operation is a plain store, which on x86 goes through the store buffer.
abbrev pub is_store : Operation → Bool
is_store (Store x v) = true
is_store o = false

-- Tests whether the operation is a plain load.
abbrev pub is_load : Operation → Bool
is_load (Load d x) = true
is_load o = false

-- Tests whether the operation is a fence.
abbrev pub is_fence : Operation → Bool
is_fence Fence = true
is_fence o = false

-- Tests whether the operation is an atomic read-modify-write.
abbrev pub is_locked : Operation → Bool
is_locked (Set d v) = false
is_locked (Sum d a v) = false
is_locked (Compare a v) = false
is_locked (Store x v) = false
is_locked (Load d x) = false
is_locked (Swap d x a) = true
is_locked (FetchAdd d x v) = true
is_locked Fence = false
is_locked (Branch c to) = false

-- Tests whether the operation writes its location.
abbrev pub writes : Operation → Bool
writes o = is_store o || is_locked o

-- Tests whether x86 executes the operation only with an empty store buffer.
abbrev pub needs_empty_buffer : Operation → Bool
needs_empty_buffer o = is_fence o || is_locked o

-- The target of a branch; `None` for other operations.
abbrev pub branch_target : Operation → Option ℕ
branch_target (Branch c to) = Some to
branch_target o = None

-- Tests whether control can pass to the next statement: always, except after an unconditional branch.
abbrev pub falls_through : Operation → Bool
falls_through (Branch Always to) = false
falls_through o = true

-- Position k is a successor of the operation at position j.
abbrev pub IsSuccessor : Operation → ℕ → ℕ → Type 0
IsSuccessor o j k = ((falls_through o ≡ true) × (k ≡ j + 1)) ⊎ (branch_target o ≡ Some k)

-- Tests whether a guard holds, for these registers and this zero flag.
abbrev pub guard_holds : Guard → List ℕ → Bool → Bool
guard_holds Always regs flag = true
guard_holds (Equal a n) regs flag = slice_index regs a == n
guard_holds (NotEqual a n) regs flag = not (slice_index regs a == n)
guard_holds Zero regs flag = flag
guard_holds NotZero regs flag = not flag

-- ---- Registers and numbers.

-- The register that a guard reads, if it reads one.
abbrev pub guard_registers : Guard → List ℕ
guard_registers (Equal a n) = a ∷ []
guard_registers (NotEqual a n) = a ∷ []
guard_registers c = []

-- The number with which a guard compares a register, if it does.
abbrev pub guard_numbers : Guard → List ℕ
guard_numbers (Equal a n) = n ∷ []
guard_numbers (NotEqual a n) = n ∷ []
guard_numbers c = []

-- The registers that the operation reads or writes.
abbrev pub registers_of : Operation → List ℕ
registers_of (Set d v) = d ∷ operand_registers v
registers_of (Sum d a v) = d ∷ a ∷ operand_registers v
registers_of (Compare a v) = a ∷ operand_registers v
registers_of (Store x v) = operand_registers v
registers_of (Load d x) = d ∷ []
registers_of (Swap d x a) = d ∷ a ∷ []
registers_of (FetchAdd d x v) = option_to_list d ++ operand_registers v
registers_of Fence = []
registers_of (Branch c to) = guard_registers c

-- The numbers of the operation.
abbrev pub numbers_of : Operation → List ℕ
numbers_of (Set d v) = operand_numbers v
numbers_of (Sum d a v) = operand_numbers v
numbers_of (Compare a v) = operand_numbers v
numbers_of (Store x v) = operand_numbers v
numbers_of (Load d x) = []
numbers_of (Swap d x a) = []
numbers_of (FetchAdd d x v) = operand_numbers v
numbers_of Fence = []
numbers_of (Branch c to) = guard_numbers c
