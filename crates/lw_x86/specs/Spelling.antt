-- The spelling of the instructions of an x86 test, by docs/FORMAT.md, which follows the Intel syntax of herd's x86 litmus tests.
use Rattle.std.specs.Prelude.{ℕ, List, [], ◌∷◌, codes}
use Rattle.lw_base.specs.Types.{Bytes}
use Rattle.lw_base.specs.declared.operand.Operand.TheVariants as operand
use Rattle.lw_litmus.specs.declared.instr.Instr.{Instr}
use Rattle.lw_litmus.specs.declared.instr.Instr.TheVariants as instr
use Rattle.lw_litmus.specs.Programs.{x86_language}
use Rattle.lw_statements.specs.declared.slot.Slot.{Slot}
use Rattle.lw_statements.specs.declared.slot.Slot.TheVariants.{Keyword, Register, Location, Value, Number, Label}
use Rattle.lw_statements.specs.Spellings.{Spelling, Filling}
use Rattle.lw_x86.specs.declared.language.X86Keyword.{X86Keyword}
use Rattle.lw_x86.specs.declared.language.X86Keyword.TheVariants as keyword
use Rattle.lw_x86.specs.declared.language.X86Keyword.TheVariants.{Lock, Open, Close, Comma, Dollar}
use Rattle.lw_x86.specs.declared.language.X86Form.{X86Form}
use Rattle.lw_x86.specs.declared.language.X86Form.TheVariants.{Store, StoreNumber, Load, Set, SetNumber, Add, AddNumber, Compare, CompareNumber, Exchange}
use Rattle.lw_x86.specs.declared.language.X86Form.TheVariants.{ExchangeLast, LockedExchange, LockedExchangeLast, ExchangeAdd, Fence, JumpEqual, JumpNotEqual}
use Rattle.lw_x86.specs.declared.language.X86Form.TheVariants.{Jump}

-- The text of a mnemonic or a sign.
abbrev pub x86_keyword_text : X86Keyword → Bytes
x86_keyword_text keyword.Mov = codes "MOV"
x86_keyword_text keyword.Add = codes "ADD"
x86_keyword_text keyword.Cmp = codes "CMP"
x86_keyword_text keyword.Xchg = codes "XCHG"
x86_keyword_text keyword.Xadd = codes "XADD"
x86_keyword_text Lock = codes "LOCK"
x86_keyword_text keyword.Mfence = codes "MFENCE"
x86_keyword_text keyword.Je = codes "JE"
x86_keyword_text keyword.Jne = codes "JNE"
x86_keyword_text keyword.Jmp = codes "JMP"
x86_keyword_text Open = codes "["
x86_keyword_text Close = codes "]"
x86_keyword_text Comma = codes ","
x86_keyword_text Dollar = codes "$"

-- All forms of x86 instructions.
abbrev pub x86_forms : List X86Form
x86_forms =
    Store ∷ StoreNumber ∷ Load ∷ Set
    ∷ SetNumber ∷ Add ∷ AddNumber ∷ Compare ∷ CompareNumber ∷ Exchange
    ∷ ExchangeLast ∷ LockedExchange
    ∷ LockedExchangeLast ∷ ExchangeAdd ∷ Fence
    ∷ JumpEqual ∷ JumpNotEqual ∷ Jump ∷ []

-- The slots of a form, one for each token.
abbrev pub x86_slots : X86Form → List (Slot X86Keyword)
-- `MOV [x],a`
x86_slots Store = Keyword keyword.Mov ∷ Keyword Open ∷ Location ∷ Keyword Close ∷ Keyword Comma ∷ Value ∷ []
-- `MOV [x],$n`
x86_slots StoreNumber = Keyword keyword.Mov ∷ Keyword Open ∷ Location ∷ Keyword Close ∷ Keyword Comma ∷ Keyword Dollar ∷ Number ∷ []
-- `MOV d,[x]`
x86_slots Load = Keyword keyword.Mov ∷ Register ∷ Keyword Comma ∷ Keyword Open ∷ Location ∷ Keyword Close ∷ []
-- `MOV d,a`
x86_slots Set = Keyword keyword.Mov ∷ Register ∷ Keyword Comma ∷ Value ∷ []
-- `MOV d,$n`
x86_slots SetNumber = Keyword keyword.Mov ∷ Register ∷ Keyword Comma ∷ Keyword Dollar ∷ Number ∷ []
-- `ADD d,a`
x86_slots Add = Keyword keyword.Add ∷ Register ∷ Keyword Comma ∷ Value ∷ []
-- `ADD d,$n`
x86_slots AddNumber = Keyword keyword.Add ∷ Register ∷ Keyword Comma ∷ Keyword Dollar ∷ Number ∷ []
-- `CMP a,b`
x86_slots Compare = Keyword keyword.Cmp ∷ Register ∷ Keyword Comma ∷ Value ∷ []
-- `CMP a,$n`
x86_slots CompareNumber = Keyword keyword.Cmp ∷ Register ∷ Keyword Comma ∷ Keyword Dollar ∷ Number ∷ []
-- `XCHG [x],a`
x86_slots Exchange = Keyword keyword.Xchg ∷ Keyword Open ∷ Location ∷ Keyword Close ∷ Keyword Comma ∷ Register ∷ []
-- `XCHG a,[x]`
x86_slots ExchangeLast = Keyword keyword.Xchg ∷ Register ∷ Keyword Comma ∷ Keyword Open ∷ Location ∷ Keyword Close ∷ []
-- `LOCK XCHG [x],a`
x86_slots LockedExchange = Keyword Lock ∷ Keyword keyword.Xchg ∷ Keyword Open ∷ Location ∷ Keyword Close ∷ Keyword Comma ∷ Register ∷ []
-- `LOCK XCHG a,[x]`
x86_slots LockedExchangeLast = Keyword Lock ∷ Keyword keyword.Xchg ∷ Register ∷ Keyword Comma ∷ Keyword Open ∷ Location ∷ Keyword Close ∷ []
-- `LOCK XADD [x],a`
x86_slots ExchangeAdd = Keyword Lock ∷ Keyword keyword.Xadd ∷ Keyword Open ∷ Location ∷ Keyword Close ∷ Keyword Comma ∷ Register ∷ []
-- `MFENCE`
x86_slots Fence = Keyword keyword.Mfence ∷ []
-- `JE L`
x86_slots JumpEqual = Keyword keyword.Je ∷ Label ∷ []
-- `JNE L`
x86_slots JumpNotEqual = Keyword keyword.Jne ∷ Label ∷ []
-- `JMP L`
x86_slots Jump = Keyword keyword.Jmp ∷ Label ∷ []

-- The instruction of a form, from the values of its slots, the index of its location, and the index of its label's instruction. Slots are
-- named by the letter of the form, by the keyword, which has no value (`[` opens and `]` closes), or as a location or a label.
abbrev pub instruction : ℕ → ℕ → (form : X86Form) → Filling (x86_slots form) → Instr
instruction x target Store (mov, (opens, (location, (closes, (comma, (a, end)))))) = instr.Store x a
instruction x target StoreNumber (mov, (opens, (location, (closes, (comma, (dollar, (n, end))))))) = instr.Store x (operand.Number n)
instruction x target Load (mov, (d, (comma, (opens, (location, (closes, end)))))) = instr.Load d x
instruction x target Set (mov, (d, (comma, (a, end)))) = instr.Set d a
instruction x target SetNumber (mov, (d, (comma, (dollar, (n, end))))) = instr.Set d (operand.Number n)
instruction x target Add (add, (d, (comma, (a, end)))) = instr.Add d a
instruction x target AddNumber (add, (d, (comma, (dollar, (n, end))))) = instr.Add d (operand.Number n)
instruction x target Compare (cmp, (a, (comma, (b, end)))) = instr.Cmp a b
instruction x target CompareNumber (cmp, (a, (comma, (dollar, (n, end))))) = instr.Cmp a (operand.Number n)
instruction x target Exchange (xchg, (opens, (location, (closes, (comma, (a, end)))))) = instr.Xchg x a
instruction x target ExchangeLast (xchg, (a, (comma, (opens, (location, (closes, end)))))) = instr.Xchg x a
instruction x target LockedExchange (lock, (xchg, (opens, (location, (closes, (comma, (a, end))))))) = instr.Xchg x a
instruction x target LockedExchangeLast (lock, (xchg, (a, (comma, (opens, (location, (closes, end))))))) = instr.Xchg x a
instruction x target ExchangeAdd (lock, (xadd, (opens, (location, (closes, (comma, (a, end))))))) = instr.Xadd x a
instruction x target Fence (mfence, end) = instr.Mfence
instruction x target JumpEqual (je, (label, end)) = instr.Je target
instruction x target JumpNotEqual (jne, (label, end)) = instr.Jne target
instruction x target Jump (jmp, (label, end)) = instr.Jmp target

-- The spelling of x86: its keywords, forms, slots and instructions.
abbrev pub x86_spelling : Spelling X86Keyword X86Form Instr
x86_spelling = record {
  language = x86_language;
  text_of = x86_keyword_text;
  forms = x86_forms;
  slots_of = x86_slots;
  statement = instruction;
}
