-- A frame has at most one test, which is well-formed. The languages' proofs use this.
use Rattle.lw_statements.proofs.Common.{◌≡◌, Bool, true, false, List, [], ◌∷◌, length, refl, sym, ap, ◌∙◌}
use Rattle.lw_statements.proofs.Common.{subst, filter_map, map, AllZip, AllByRecursion, ForSome, length-map}
use Rattle.lw_statements.proofs.Common.{All-from_recursion, IsUnreservedName, IsNameTable, contains_name}
use Rattle.lw_statements.proofs.Common.{insert_name, insert_names, Bytes, NameTable, TokenList, Cells}
use Rattle.lw_statements.proofs.Common.{CellGrid, IsWellFormedHead, AllByRecursion-append, All-append_inv}
use Rattle.lw_statements.proofs.Common.{IsDuplicateFree-insert_names, length_le-insert_names}
use Rattle.lw_statements.proofs.Common.{IsWellFormedHead-set_location_names, IsWellFormedThread, IsWellFormed}
use Rattle.lw_statements.proofs.Common.{Test, TestFrame, Grammar, IsGrammar, CellSyntax, MaybeStatement}
use Rattle.lw_statements.proofs.Common.{ParsesCell, Column, statements, names_of, code_in, resolve_test}
use Rattle.lw_statements.proofs.Common.{FrameHasTest, AreUnreserved-insert_names}
use Rattle.lw_statements.proofs.Elements.{AllByRecursion-cons_option}
use Rattle.lw_statements.proofs.OneReading.{Column-unique}
use Rattle.lw_statements.proofs.api.Zips.{AllZip-unique, AllZip-length}
use Rattle.lw_statements.proofs.ResolvedNames.{HaveTokens, IsWellFormedThread-code_in}
use Rattle.lw_statements.proofs.TablesRead.{AreIn, AreIn-insert_names}

module _ {Syntax Stmt : Type 0} (grammar : Grammar Syntax Stmt) (lawful : IsGrammar grammar) where
  -- A frame has at most one test.
  pub test-unique : (frame : TestFrame) (s t : Test Stmt) → FrameHasTest grammar frame s → FrameHasTest grammar frame t → s ≡ t
  test-unique frame s t h k =
      let same = AllZip-unique _ (Column-unique grammar lawful) frame.cells h.threads k.threads h.says k.says in
      h.test_is
      ∙ ap (λ ts. resolve_test grammar frame.head (insert_names frame.head.locs (names_of grammar ts)) ts) same
      ∙ sym k.test_is

  -- Each statement of a column is said by some tokens.
  HaveTokens-Column : (cells : Cells) (t : List (CellSyntax Syntax))
      → AllZip (ParsesCell grammar) cells t
      → HaveTokens grammar lawful (statements t)
  HaveTokens-Column [] [] says = tt
  HaveTokens-Column (c ∷ cells) (y ∷ t) says =
      AllByRecursion-cons_option (λ (s : Syntax). (ts : TokenList) × grammar.says ts s) y.stmt (statements t)
      (λ s is. (says.0.0, subst (MaybeStatement grammar says.0.0) is says.0.2)) (HaveTokens-Column cells t says.1)
  HaveTokens-Column cells t says = absurd says

  -- The threads of a frame's columns are well-formed, if the table has all names of their statements.
  IsWellFormedThread-all : (names : NameTable) (columns : CellGrid) (ts : List (List (CellSyntax Syntax)))
      → AllZip (Column grammar) columns ts
      → AreIn names (names_of grammar ts)
      → AllByRecursion (IsWellFormedThread grammar.language (length names)) (map (code_in grammar names) ts)
  IsWellFormedThread-all names [] [] says all = tt
  IsWellFormedThread-all names (c ∷ columns) (t ∷ ts) says all =
      let parts = All-append_inv (λ n. contains_name names n ≡ true) _ (names_of grammar ts) all in (
        IsWellFormedThread-code_in grammar lawful names t (HaveTokens-Column c t says.0.says) parts.0 says.0.bounded
            says.0.forward,
        IsWellFormedThread-all names columns ts says.1 parts.1,
      )
  IsWellFormedThread-all names columns ts says all = absurd says

  -- The names of locations in statements are allowed.
  module _ (named : (ts : TokenList) (s : Syntax) → grammar.says ts s → ForSome (grammar.name_of s) IsUnreservedName) where
    -- Each name in statements that tokens say is a location's name.
    IsUnreservedName-HaveTokens : (ss : List Syntax)
        → HaveTokens grammar lawful ss
        → AllByRecursion IsUnreservedName (filter_map grammar.name_of ss)
    IsUnreservedName-HaveTokens [] said = tt
    IsUnreservedName-HaveTokens (s ∷ ss) said =
        AllByRecursion-cons_option IsUnreservedName _ _ (named said.0.0 s said.0.1) (IsUnreservedName-HaveTokens ss said.1)

    -- Each name of the statements in the columns is a location's name.
    IsUnreservedName-all_names : (columns : CellGrid) (ts : List (List (CellSyntax Syntax)))
        → AllZip (Column grammar) columns ts
        → AllByRecursion IsUnreservedName (names_of grammar ts)
    IsUnreservedName-all_names [] [] says = tt
    IsUnreservedName-all_names (c ∷ columns) (t ∷ ts) says =
        AllByRecursion-append IsUnreservedName _ _ (IsUnreservedName-HaveTokens _ (HaveTokens-Column c t says.0.says))
        (IsUnreservedName-all_names columns ts says.1)
    IsUnreservedName-all_names columns ts says = absurd says

    -- The test of a frame with a well-formed head is well-formed.
    pub well_formed_test : (frame : TestFrame) (test : Test Stmt)
        → IsWellFormedHead frame.head
        → length frame.cells ≡ frame.head.threads
        → FrameHasTest grammar frame test
        → IsWellFormed grammar.language test
    well_formed_test frame test formed columns h =
        let added = names_of grammar h.threads in
        let names : NameTable = insert_names frame.head.locs added in
        let table : IsNameTable names = record {
          bounded = h.bounded;
          are_unreserved =
              AreUnreserved-insert_names frame.head.locs added formed.table.are_unreserved
              (IsUnreservedName-all_names frame.cells h.threads h.says);
          without_duplicates = IsDuplicateFree-insert_names frame.head.locs added formed.table.without_duplicates;
        } in
        subst (IsWellFormed grammar.language) (sym h.test_is) (record {
          head = IsWellFormedHead-set_location_names _ names formed table (length_le-insert_names frame.head.locs added);
          arch = h.arch;
          as_many =
              length-map h.threads (code_in grammar names)
              ∙ sym (AllZip-length (Column grammar) frame.cells h.threads h.says)
              ∙ columns;
          code =
              All-from_recursion (IsWellFormedThread grammar.language (length names)) (map (code_in grammar names) h.threads)
              (IsWellFormedThread-all names frame.cells h.threads h.says (AreIn-insert_names frame.head.locs added));
        })
