-- The grammar of a language of litmus tests: which tokens are a statement, and which statement they are. An x86 instruction is a statement
-- of its language.
use Rattle.std.specs.Prelude.{◌≡◌, ◌<◌, ◌^◌, ℕ, Option, Some, [], ◌∷◌, ◌++◌, codes, slice_get, All}
use Rattle.std.specs.Option.{option_map}
use Rattle.lw_base.specs.WellFormed.{IsRegisterIndex, IsWordNumber}
use Rattle.lw_base.specs.Names.{IsUnreservedName}
use Rattle.lw_base.specs.Registers.{IsRegisterName}
use Rattle.lw_base.specs.Types.{Bytes, TokenList}
use Rattle.lw_base.specs.declared.head.Arch.{Arch}
use Rattle.lw_litmus.specs.Languages.{Language}
use Rattle.lw_litmus.specs.Operations.{location_of, branch_target}
use Rattle.lw_litmus.specs.Operations.{registers_of, numbers_of}

-- A grammar. The syntax of a statement's tokens is of type Syntax; a statement itself is of type Stmt.
pub record Grammar (Syntax Stmt : Type 0) : Type 1 where
  -- The language of the statements.
  pub language : Language Stmt
  -- The tokens have this syntax.
  pub says : TokenList → Syntax → Type 0
  -- The name of the location, and the label of the jump.
  pub name_of : Syntax → Option Bytes
  pub label_of : Syntax → Option Bytes
  -- The statement, from the index of its location and its target.
  pub statement_of : ℕ → ℕ → Syntax → Stmt

module _ {Syntax Stmt : Type 0} (grammar : Grammar Syntax Stmt) where
  -- The language of a grammar's tests.
  abbrev pub arch_of : Arch
  arch_of = grammar.language.arch

  -- The maximum number of statements of a thread.
  abbrev pub statement_limit : ℕ
  statement_limit = grammar.language.most

  -- Some statement begins with the tokens.
  abbrev pub BeginsStatement : TokenList → Type 0
  BeginsStatement ts = (rest : TokenList) × (s : Syntax) × grammar.says (ts ++ rest) s

  -- Some statement begins with the token.
  abbrev pub CanBegin : Bytes → Type 0
  CanBegin t = BeginsStatement (t ∷ [])

  -- After the tokens, the token x is a location: some statement begins with them and x, and x is the location of every such statement.
  pub record IsLocationAfter (ts : TokenList) (x : Bytes) : Type 0 where
    pub begins : BeginsStatement (ts ++ x ∷ [])
    pub only : (rest : TokenList) (s : Syntax) → grammar.says (ts ++ x ∷ rest) s → grammar.name_of s ≡ Some x

  -- After the tokens a register may follow, and no location may: some statement begins with them and a register's name, and none with them
  -- and a location's name.
  pub record IsBeforeRegister (ts : TokenList) : Type 0 where
    pub name : Bytes
    pub register : ℕ
    pub named : IsRegisterName grammar.language.arch name register
    pub begins : BeginsStatement (ts ++ name ∷ [])
    pub no_location : (x : Bytes) → IsUnreservedName x → BeginsStatement (ts ++ x ∷ []) → ⊥

  -- What the rule of cells requires.
  pub record IsGrammar : Type 0 where
    -- The number of statements of a thread is below 2^64.
    pub countable : grammar.language.most < 2 ^ 64
    -- Tokens have at most one syntax.
    pub deterministic : (ts : TokenList) (s t : Syntax) → grammar.says ts s → grammar.says ts t → s ≡ t
    -- A statement has a token, and no `:` after its first.
    pub some : (ts : TokenList) (s : Syntax) → grammar.says ts s → ts ≡ [] → ⊥
    pub no_label : (ts : TokenList) (s : Syntax) → grammar.says ts s → slice_get ts 1 ≡ Some (codes ":") → ⊥
    -- A statement accesses the location of its name, and jumps to where its label does.
    pub located : (x to : ℕ) (s : Syntax) → location_of (grammar.language.operation_of (grammar.statement_of x to s)) ≡ option_map (λ n. x) (grammar.name_of s)
    pub target_is : (x to : ℕ) (s : Syntax) → branch_target (grammar.language.operation_of (grammar.statement_of x to s)) ≡ option_map (λ l. to) (grammar.label_of s)
    -- Its registers are registers of a thread, and its numbers are words.
    pub registers : (ts : TokenList) (x to : ℕ) (s : Syntax) → grammar.says ts s
        → All IsRegisterIndex (registers_of (grammar.language.operation_of (grammar.statement_of x to s)))
    pub numbers : (ts : TokenList) (x to : ℕ) (s : Syntax) → grammar.says ts s
        → All IsWordNumber (numbers_of (grammar.language.operation_of (grammar.statement_of x to s)))
