-- The canonical text of an x86 test, by docs/FORMAT.md, which follows the Intel syntax of herd's x86 litmus tests.
use Rattle.std.specs.Prelude.{ℕ, suc, max, Bool, true, false, ◌==◌, if◌then◌else◌, List, [], ◌∷◌, ◌++◌, length, map, fold, codes, slice_index, slice_index_or}
use Rattle.std.specs.List.{list_any, flat_map, range_with_len}
use Rattle.std.specs.Option.{option_map_or}
use Rattle.std.specs.Fmt.{decimal}
use Rattle.lw_base.specs.Texts.{joined}
use Rattle.lw_base.specs.Types.{Bytes, NameTable}
use Rattle.lw_base.specs.declared.head.Arch.TheVariants.{X86}
use Rattle.lw_base.specs.declared.head.Seen.{Seen}
use Rattle.lw_base.specs.declared.head.Seen.TheVariants as seen
use Rattle.lw_base.specs.declared.operand.Operand.TheVariants as operand
use Rattle.lw_base.specs.ConditionTexts.{site_text, assignment, condition_text}
use Rattle.lw_base.specs.Heads.{TestHead}
use Rattle.lw_base.specs.Registers.{register_name}
use Rattle.lw_base.specs.SeenLists.{all_registers, locations}
use Rattle.lw_text.specs.Rows.{thread_name}
use Rattle.lw_litmus.specs.declared.instr.Instr.{Instr}
use Rattle.lw_litmus.specs.declared.instr.Instr.TheVariants as instr
use Rattle.lw_litmus.specs.Operations.{branch_target}
use Rattle.lw_litmus.specs.Programs.{x86_operation}
use Rattle.lw_litmus.specs.Tests.{X86Test}
use Rattle.lw_statements.specs.declared.slot.Slot.{Slot}
use Rattle.lw_statements.specs.declared.slot.Slot.TheVariants.{Keyword, Register, Location, Value, Number, Label}
use Rattle.lw_statements.specs.Spellings.{SlotValue, Filling, ParsesStatement}
use Rattle.lw_x86.specs.declared.language.X86Keyword.{X86Keyword}
use Rattle.lw_x86.specs.declared.language.X86Keyword.TheVariants.{Open, Close, Comma, Dollar}
use Rattle.lw_x86.specs.declared.language.X86Form.TheVariants.{Store, StoreNumber, Load, Set, SetNumber, Add, AddNumber, Compare, CompareNumber, Exchange}
use Rattle.lw_x86.specs.declared.language.X86Form.TheVariants.{ExchangeAdd, Fence, JumpEqual, JumpNotEqual, Jump}
use Rattle.lw_x86.specs.Spelling.{x86_keyword_text, x86_slots, x86_spelling}

-- ---- Instructions.

-- The label of the instruction at this position.
abbrev pub label : ℕ → Bytes
label k = codes "L" ++ decimal k

-- The form in which an instruction is printed, and the values of its slots: a location by its name, a target by its label. Numbers have a
-- `$`, and an exchange begins with its location.
abbrev pub printed_form : NameTable → Instr → ParsesStatement x86_spelling
printed_form names (instr.Store x (operand.Register a)) =
    record { form = Store; filling = (tt, (tt, (slice_index_or names x [], (tt, (tt, (operand.Register a, tt)))))) }
printed_form names (instr.Store x (operand.Number n)) =
    record { form = StoreNumber; filling = (tt, (tt, (slice_index_or names x [], (tt, (tt, (tt, (n, tt))))))) }
printed_form names (instr.Load d x) = record { form = Load; filling = (tt, (d, (tt, (tt, (slice_index_or names x [], (tt, tt)))))) }
printed_form names (instr.Set d (operand.Register a)) = record { form = Set; filling = (tt, (d, (tt, (operand.Register a, tt)))) }
printed_form names (instr.Set d (operand.Number n)) = record { form = SetNumber; filling = (tt, (d, (tt, (tt, (n, tt))))) }
printed_form names (instr.Add d (operand.Register a)) = record { form = Add; filling = (tt, (d, (tt, (operand.Register a, tt)))) }
printed_form names (instr.Add d (operand.Number n)) = record { form = AddNumber; filling = (tt, (d, (tt, (tt, (n, tt))))) }
printed_form names (instr.Cmp a (operand.Register b)) = record { form = Compare; filling = (tt, (a, (tt, (operand.Register b, tt)))) }
printed_form names (instr.Cmp a (operand.Number n)) = record { form = CompareNumber; filling = (tt, (a, (tt, (tt, (n, tt))))) }
printed_form names (instr.Xchg x a) = record { form = Exchange; filling = (tt, (tt, (slice_index_or names x [], (tt, (tt, (a, tt)))))) }
printed_form names (instr.Xadd x a) =
    record { form = ExchangeAdd; filling = (tt, (tt, (tt, (slice_index_or names x [], (tt, (tt, (a, tt))))))) }
printed_form names instr.Mfence = record { form = Fence; filling = (tt, tt) }
printed_form names (instr.Je to) = record { form = JumpEqual; filling = (tt, (label to, tt)) }
printed_form names (instr.Jne to) = record { form = JumpNotEqual; filling = (tt, (label to, tt)) }
printed_form names (instr.Jmp to) = record { form = Jump; filling = (tt, (label to, tt)) }

-- The printed text of a slot.
abbrev pub slot_text : (slot : Slot X86Keyword) → SlotValue slot → Bytes
slot_text (Keyword w) g = x86_keyword_text w
slot_text Register r = register_name X86 r
slot_text Location x = x
slot_text Value (operand.Register r) = register_name X86 r
slot_text Value (operand.Number n) = decimal n
slot_text Number n = decimal n
slot_text Label l = l

-- Tests whether the keyword is a sign: a bracket, a comma or a `$`.
abbrev pub is_sign : X86Keyword → Bool
is_sign Open = true
is_sign Close = true
is_sign Comma = true
is_sign Dollar = true
is_sign w = false

-- The blank after a slot that others follow: one after a mnemonic, none after a sign, a register, a location or a number.
abbrev pub space_after : Slot X86Keyword → Bytes
space_after (Keyword w) = if is_sign w then [] else codes " "
space_after slot = []

-- The text of slots, with blanks after mnemonics.
abbrev pub slots_text : (slots : List (Slot X86Keyword)) → Filling slots → Bytes
slots_text [] f = []
slots_text (slot ∷ []) (g, f) = slot_text slot g
slots_text (slot ∷ next ∷ slots) (g, f) = slot_text slot g ++ (space_after slot ++ slots_text (next ∷ slots) f)

-- The text of an instruction, slot by slot of its printed form.
abbrev pub instruction_text : NameTable → Instr → Bytes
instruction_text names i = slots_text (x86_slots (printed_form names i).form) (printed_form names i).filling

-- ---- Cells.

-- Tests whether the instruction jumps to this position.
abbrev pub jumps_to : ℕ → Instr → Bool
jumps_to k i = option_map_or (λ to. to == k) (branch_target (x86_operation i)) false

-- Tests whether some instruction of the code jumps to the position.
abbrev pub is_target : List Instr → ℕ → Bool
is_target code k = list_any (jumps_to k) code

-- The label before the instruction at a position, with `: `, if some instruction jumps to it; empty otherwise.
abbrev pub label_prefix : List Instr → ℕ → Bytes
label_prefix code k = if is_target code k then label k ++ codes ": " else []

-- The text of the cell of the instruction at a position, with its label if it has one.
abbrev pub cell_text : NameTable → List Instr → ℕ → Instr → Bytes
cell_text names code k i = label_prefix code k ++ instruction_text names i

-- The cell after the last instruction, with the label of the end, if some instruction jumps there; no cell otherwise.
abbrev pub end_cells : List Instr → ℕ → List Bytes
end_cells code k = if is_target code k then (label k ++ codes ":") ∷ [] else []

-- The texts of a thread's cells from position k on, with these instructions.
abbrev pub cells_from : NameTable → List Instr → ℕ → List Instr → List Bytes
cells_from names code k [] = end_cells code k
cells_from names code k (i ∷ rest) = cell_text names code k i ∷ cells_from names code (suc k) rest

-- The texts of a thread's cells.
abbrev pub cells_of : NameTable → List Instr → List Bytes
cells_of names code = cells_from names code 0 code

-- ---- Lines.

-- The line of a row: its cells separated by bars, and ` ;`.
abbrev pub row_text : List Bytes → Bytes
row_text cells = codes " " ++ (joined (codes " | ") cells ++ codes " ;\n")

-- The row at an index: the cell of each thread there, which is empty if the thread has no more.
abbrev pub row_at : List (List Bytes) → ℕ → List Bytes
row_at threads k = map (λ cells. slice_index_or cells k []) threads

-- The number of cells of the longest thread.
abbrev pub max_cell_count : List (List Bytes) → ℕ
max_cell_count threads = fold max 0 (map length threads)

-- The texts of all rows, as many as the longest thread has cells.
abbrev pub rows_text : List (List Bytes) → Bytes
rows_text threads = flat_map (λ k. row_text (row_at threads k)) (range_with_len 0 (max_cell_count threads))

-- The line of the threads' names.
abbrev pub header_text : ℕ → Bytes
header_text threads = row_text (map thread_name (range_with_len 0 threads))

-- The initial word of a register or a location.
abbrev pub initial_word : TestHead → Seen → ℕ
initial_word head (seen.Register t r) = slice_index (slice_index_or head.init_regs t []) r
initial_word head (seen.Location x) = slice_index head.init_words x

-- An initializer of the initial block: a site with its word.
abbrev pub initializer_text : TestHead → Seen → Bytes
initializer_text head s = codes " " ++ (assignment (site_text X86 head.locs s) (initial_word head s) ++ codes ";\n")

-- The initializer of a register; empty if its initial word is 0.
abbrev pub register_initializer : TestHead → Seen → Bytes
register_initializer head s = if initial_word head s == 0 then [] else initializer_text head s

-- The initial block: the registers whose initial word is not 0, and all locations.
abbrev pub block_text : TestHead → Bytes
block_text head =
    codes "{\n"
    ++ (flat_map (register_initializer head) (all_registers head.threads)
    ++ (flat_map (initializer_text head) (locations (length head.locs))
    ++ codes "}\n"))

-- An element of the list of names, and a `;`.
abbrev pub element_text : NameTable → Seen → Bytes
element_text names s = site_text X86 names s ++ codes ";"

-- The line of the list of names; empty if the test has none.
abbrev pub listed_text : NameTable → List Seen → Bytes
listed_text names [] = []
listed_text names (s ∷ ss) =
    codes "locations [" ++ (joined (codes " ") (map (element_text names) (s ∷ ss)) ++ codes "]\n")

-- The canonical text of a program.
abbrev pub canonical_text : X86Test → Bytes
canonical_text test =
    codes "X86 " ++ (test.head.name ++ (codes "\n"
    ++ (block_text test.head
    ++ (header_text test.head.threads
    ++ (rows_text (map (cells_of test.head.locs) test.threads)
    ++ (listed_text test.head.locs test.head.listed
    ++ (condition_text test.head ++ codes "\n")))))))
