-- The text of examples/SB-x86.litmus says store buffering in x86: token by token, by the grammar. With
-- ExampleReports this is the law about the bytes of the example and its report.
use Rattle.lw_bench.proofs.Common.{◌≡◌, ℕ, zero, suc, inl, inr, true, Some, List, [], ◌∷◌, ◌++◌, codes, refl}
use Rattle.lw_bench.proofs.Common.{arith, slice_get, same_Some, none-some, sym, ap, ◌∙◌, Bytes, Number, X86}
use Rattle.lw_bench.proofs.Common.{Exists, TestFrame, HasProgram, HasTest, Of_x86, store_buffering_in_x86}
use Rattle.lw_bench.proofs.Common.{both_loads_are_early, and_parts, not, false, None, AllByRecursion, Formula}
use Rattle.lw_bench.proofs.Common.{list_all, not-true, Reg_is, IsUtf8-from_ascii, TokenList, IsUnreservedName}
use Rattle.lw_bench.proofs.Common.{IsRegisterName, store_buffering_notes, store_buffering_body}
use Rattle.lw_bench.proofs.Common.{store_buffering_text, CellSyntax, ParsesCell, Column, LabelsLeadForward}
use Rattle.lw_bench.proofs.Common.{statements, ParsesStatement, IsNumber, Tokens, none, blank, comment}
use Rattle.lw_bench.proofs.Common.{Preamble, InThread, Terminal, Open, Close, Conjunction, Atom, Derives}
use Rattle.lw_bench.proofs.Common.{DisjunctionLevel, atom, parens, part, and, conjunction, Holds}
use Rattle.lw_bench.proofs.Common.{ParsesQuestion, ends_cell, TestSyntax, ParsesTest, HasFrame}
use Rattle.lw_bench.proofs.Common.{frame_of_syntax, x86_grammar, x86_spelling, printed_form}
use Rattle.lw_text.specs.Preambles.{none as no_notes}
use Rattle.lw_bench.proofs.Classics.{one_letter}
use Rattle.lw_bench.proofs.TokenTexts.{are_tokens, Tokens-by_test, IsToken-by_test, plain_comment}
use Rattle.lw_bench.proofs.TokenTexts.{ascii_by_test}
use Rattle.lw_litmus.specs.declared.instr.Instr.TheVariants as instr

-- ---- the tokens

-- The tokens of `MOV [x],$1`.
abbrev store_tokens : Bytes → TokenList
store_tokens x = codes "MOV" ∷ codes "[" ∷ x ∷ codes "]" ∷ codes "," ∷ codes "$" ∷ codes "1" ∷ []

-- The tokens of `MOV EAX,[x]`.
abbrev load_tokens : Bytes → TokenList
load_tokens x = codes "MOV" ∷ codes "EAX" ∷ codes "," ∷ codes "[" ∷ x ∷ codes "]" ∷ []

-- The tokens of `exists (0:EAX=0 /\ 1:EAX=0)`.
abbrev condition_tokens : TokenList
condition_tokens =
    codes "exists" ∷ codes "(" ∷ codes "0" ∷ codes ":" ∷ codes "EAX" ∷ codes "=" ∷ codes "0" ∷ codes "/\\" ∷ codes "1" ∷ codes ":"
    ∷ codes "EAX" ∷ codes "=" ∷ codes "0" ∷ codes ")" ∷ []

-- A row of two cells, and the rest.
abbrev row_tokens : TokenList → TokenList → TokenList → TokenList
row_tokens a b rest = a ++ codes "|" ∷ (b ++ codes ";" ∷ rest)

-- The tokens of the row of loads and of the condition.
abbrev tokens_after_stores : TokenList
tokens_after_stores = row_tokens (load_tokens (codes "y")) (load_tokens (codes "x")) condition_tokens

-- The tokens of both rows and of the condition.
abbrev tokens_after_header : TokenList
tokens_after_header = row_tokens (store_tokens (codes "x")) (store_tokens (codes "y")) tokens_after_stores

-- The header and the rest.
abbrev tokens_after_block : TokenList
tokens_after_block = codes "P0" ∷ codes "|" ∷ codes "P1" ∷ codes ";" ∷ tokens_after_header

-- All tokens: the empty initial block, and the rest.
abbrev all_tokens : TokenList
all_tokens = codes "{" ∷ codes "}" ∷ tokens_after_block

-- The text after the notes is these tokens.
Tokens-store_buffering : Tokens store_buffering_body all_tokens
unfolding are_tokens
Tokens-store_buffering = Tokens-by_test 120 store_buffering_body all_tokens refl

-- The preamble before them: the language, the name and the notes.
preamble : Preamble store_buffering_text X86 (codes "SB-x86") store_buffering_body
preamble = (
  codes " SB-x86\n(*" ++ (store_buffering_notes ++ (codes "*)\n" ++ store_buffering_body)),
  codes "\n(*" ++ (store_buffering_notes ++ (codes "*)\n" ++ store_buffering_body)),
  (
    none,
    IsToken-by_test (codes "X86") (codes " SB-x86\n(*" ++ (store_buffering_notes ++ (codes "*)\n" ++ store_buffering_body))) refl,
  ),
  record {
    blanks = codes " ";
    parts = refl;
    blanks_not_empty = omega arith;
    blank = (refl, tt);
    is_name = record {
      not_empty = omega arith;
      short = omega arith;
      are_graphic_bytes = (refl, (refl, (refl, (refl, (refl, (refl, tt))))));
    };
    longest = refl;
  },
  no_notes
      (blank refl (comment (plain_comment store_buffering_notes (codes "\n" ++ store_buffering_body) refl) (blank refl none)))
      refl,
)

-- ---- the frame

-- The syntax that the example's tokens say.
abbrev syntax : TestSyntax
syntax = record {
  initializers = [];
  threads = 2;
  rows =
      (store_tokens (codes "x") ∷ store_tokens (codes "y") ∷ []) ∷ (load_tokens (codes "y") ∷ load_tokens (codes "x") ∷ []) ∷ [];
  listed = [];
  quant = Exists;
  terminals = Open ∷ Atom (Holds (InThread 0 0) 0) ∷ Conjunction ∷ Atom (Holds (InThread 1 0) 0) ∷ Close ∷ [];
}

-- The frame of the text: its head, and the tokens of its cells.
abbrev frame : TestFrame
frame = frame_of_syntax X86 (codes "SB-x86") syntax both_loads_are_early

-- `0` is the number 0.
zero_number : IsNumber (codes "0") 0
zero_number = (omega arith, inl (omega arith, (omega arith, refl)))

-- `1` is the number 1.
one_number : IsNumber (codes "1") 1
one_number = (omega arith, inl (omega arith, (omega arith, refl)))

-- `EAX` is register 0.
IsRegisterName-eax : IsRegisterName X86 (codes "EAX") 0
IsRegisterName-eax = (omega arith, refl)

-- The tokens of the condition say the quantifier and the terminals.
question : ParsesQuestion X86 2 condition_tokens [] Exists syntax.terminals
question = record {
  after_list = condition_tokens;
  after_quant = _;
  lists = inr (refl, refl, refl);
  threads_exist = tt;
  quantifies = refl;
  says = (
    _,
    refl,
    (
      _,
      (_, (codes "0", codes "EAX", refl, zero_number, IsRegisterName-eax), omega arith, (codes "0", refl, zero_number)),
      (
        _,
        refl,
        (
          _,
          (_, (codes "1", codes "EAX", refl, one_number, IsRegisterName-eax), omega arith, (codes "0", refl, zero_number)),
          (_, refl, refl),
        ),
      ),
    ),
  );
}

-- If a test finds that no token of a cell ends a cell, none does.
no_cell_end-by_test : (cell : TokenList)
    → list_all (λ t. not (ends_cell t)) cell ≡ true
    → AllByRecursion (λ t. ends_cell t ≡ false) cell
no_cell_end-by_test [] h = tt
no_cell_end-by_test (t ∷ cell) h =
    let parts = and_parts (not (ends_cell t)) _ h in (not-true _ parts.0, no_cell_end-by_test cell parts.1)

-- All tokens are the block, the header, the rows and the condition of this syntax.
ParsesTest-store_buffering : ParsesTest X86 all_tokens syntax
ParsesTest-store_buffering = record {
  after_block = tokens_after_block;
  after_header = tokens_after_header;
  after_rows = condition_tokens;
  block = (codes "}" ∷ tokens_after_block, refl, refl);
  header = ((codes "P1" ∷ codes ";" ∷ tokens_after_header, refl, refl), omega arith);
  threads_exist = tt;
  rows = (
    (
      refl,
      (
        tokens_after_stores,
        (
          (
            store_tokens (codes "y") ++ codes ";" ∷ tokens_after_stores,
            (refl, no_cell_end-by_test (store_tokens (codes "x")) refl),
            (refl, no_cell_end-by_test (store_tokens (codes "y")) refl),
          ),
          refl,
        ),
        (
          refl,
          (
            condition_tokens,
            (
              (
                load_tokens (codes "x") ++ codes ";" ∷ condition_tokens,
                (refl, no_cell_end-by_test (load_tokens (codes "y")) refl),
                (refl, no_cell_end-by_test (load_tokens (codes "x")) refl),
              ),
              refl,
            ),
            (refl, refl),
          ),
        ),
      ),
    ),
    omega arith,
  );
  question = question;
  few_names = omega arith;
  few_nodes = omega arith;
}

-- The terminal that says that a thread's EAX is 0.
abbrev equals_zero : ℕ → List (Terminal Formula)
equals_zero t = Atom (Reg_is t 0 0) ∷ []

-- The terminals in parentheses say that both loads are early.
Derives-both_loads_early :
    Derives DisjunctionLevel (Open ∷ ((equals_zero 0 ++ Conjunction ∷ equals_zero 1) ++ Close ∷ [])) both_loads_are_early
Derives-both_loads_early = conjunction (part (parens (conjunction (and (part atom) atom))))

-- The text of the example has this frame.
HasFrame-store_buffering : HasFrame store_buffering_text frame
HasFrame-store_buffering = record {
  short = omega arith;
  utf8 = IsUtf8-from_ascii store_buffering_text (ascii_by_test store_buffering_text refl);
  arch = X86;
  name = codes "SB-x86";
  rest = store_buffering_body;
  tokens = all_tokens;
  syntax = syntax;
  proposition = both_loads_are_early;
  preamble = preamble;
  stream = Tokens-store_buffering;
  parts = ParsesTest-store_buffering;
  is_proposition = Derives-both_loads_early;
  frame_is = refl;
}

-- ---- the cells

-- The syntax of a cell with the store.
abbrev says_store : Bytes → CellSyntax (ParsesStatement x86_spelling)
says_store x = record { labels = []; stmt = Some (printed_form (x ∷ []) (instr.Store 0 (Number 1))) }

-- The syntax of a cell with the load.
abbrev says_load : Bytes → CellSyntax (ParsesStatement x86_spelling)
says_load x = record { labels = []; stmt = Some (printed_form (x ∷ []) (instr.Load 0 0)) }

-- The tokens of a store give this store.
ParsesCell-store_tokens : (x : Bytes) → IsUnreservedName x → ParsesCell x86_grammar (store_tokens x) (says_store x)
ParsesCell-store_tokens x place =
    (store_tokens x, refl, ((1, omega arith, refl), (refl, (refl, ((refl, place), (refl, (refl, (refl, (one_number, tt)))))))))

-- The tokens of a load give this load.
ParsesCell-load_tokens : (x : Bytes) → IsUnreservedName x → ParsesCell x86_grammar (load_tokens x) (says_load x)
ParsesCell-load_tokens x place =
    (load_tokens x, refl, ((2, omega arith, refl), (refl, (IsRegisterName-eax, (refl, (refl, ((refl, place), (refl, tt))))))))

-- `x` is a location's name.
IsUnreservedName-x : IsUnreservedName (codes "x")
IsUnreservedName-x = one_letter (codes "x") 120 refl refl refl refl

-- `y` is a location's name.
IsUnreservedName-y : IsUnreservedName (codes "y")
IsUnreservedName-y = one_letter (codes "y") 121 refl refl refl refl

-- A column of the tokens of a store and of a load says the store and the load, if their names are locations' names.
Column-store_and_load : (x y : Bytes)
    → IsUnreservedName x
    → IsUnreservedName y
    → Column x86_grammar (store_tokens x ∷ load_tokens y ∷ []) (says_store x ∷ says_load y ∷ [])
Column-store_and_load x y x_is y_is = record {
  says = (ParsesCell-store_tokens x x_is, (ParsesCell-load_tokens y y_is, tt));
  bounded = omega arith;
  without_duplicates = tt;
  forward = LabelsLeadForward-each;
}
  where
    -- A statement without a label leads forward, since it leads nowhere.
    LabelsLeadForward-no_label : (s : ParsesStatement x86_spelling) (k : ℕ)
        → x86_grammar.label_of s ≡ None
        → LabelsLeadForward x86_grammar (says_store x ∷ says_load y ∷ []) k s
    LabelsLeadForward-no_label s k lacks l is = absurd (none-some l (sym lacks ∙ is))

    -- All jumps of the thread's two statements lead forward.
    LabelsLeadForward-each : (k : ℕ) (s : ParsesStatement x86_spelling)
        → slice_get (statements (says_store x ∷ says_load y ∷ [])) k ≡ Some s
        → LabelsLeadForward x86_grammar (says_store x ∷ says_load y ∷ []) k s
    LabelsLeadForward-each zero s e = LabelsLeadForward-no_label s 0 (ap x86_grammar.label_of (sym (same_Some _ s e)))
    LabelsLeadForward-each (suc zero) s e = LabelsLeadForward-no_label s 1 (ap x86_grammar.label_of (sym (same_Some _ s e)))
    LabelsLeadForward-each (suc (suc k)) s e = cc

-- The frame says store buffering in x86.
HasProgram-store_buffering : HasProgram frame store_buffering_in_x86
HasProgram-store_buffering = record {
  arch = refl;
  threads = (says_store (codes "x") ∷ says_load (codes "y") ∷ []) ∷ (says_store (codes "y") ∷ says_load (codes "x") ∷ []) ∷ [];
  says = (
    Column-store_and_load (codes "x") (codes "y") IsUnreservedName-x IsUnreservedName-y,
    (Column-store_and_load (codes "y") (codes "x") IsUnreservedName-y IsUnreservedName-x, tt),
  );
  bounded = omega arith;
  test_is = refl;
}

-- The text of the example says store buffering in x86.
pub HasTest-store_buffering : HasTest store_buffering_text (Of_x86 store_buffering_in_x86)
HasTest-store_buffering = record { frame = frame; has_frame = HasFrame-store_buffering; says = HasProgram-store_buffering }
