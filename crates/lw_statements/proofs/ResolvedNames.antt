-- Statements as the table grows: their locations keep their indices, so what was resolved stays the same. And
-- a thread of them is well-formed.
use Rattle.lw_statements.proofs.Common.{◌≡◌, ℕ, ◌<◌, ◌≤◌, Option, Some, None, List, [], ◌∷◌, ◌++◌, length}
use Rattle.lw_statements.proofs.Common.{sym, ap, refl, ◌∙◌, subst, arith, map, slice_get, filter_map}
use Rattle.lw_statements.proofs.Common.{option_map, AllByRecursion, cons_option, ForSome, length-map}
use Rattle.lw_statements.proofs.Common.{All-from_recursion, filter_map-append, slice_get-map, insert_names}
use Rattle.lw_statements.proofs.Common.{position_of_name, Bytes, NameTable, TokenList, All-append_inv}
use Rattle.lw_statements.proofs.Common.{position_of_name-insert_names, position_of_name-within, branch_target}
use Rattle.lw_statements.proofs.Common.{IsWellFormedStatement, IsWellFormedThread, Grammar, IsGrammar}
use Rattle.lw_statements.proofs.Common.{CellSyntax, statements, target_in, location_index, resolved_target}
use Rattle.lw_statements.proofs.Common.{names_in, resolved_statement, code_in, AllForward, named_by}
use Rattle.lw_statements.proofs.Elements.{option_map-Some_inv}
use Rattle.lw_statements.proofs.Leads.{statements-append, target_within}
use Rattle.lw_statements.proofs.TablesRead.{AreIn, make-insert_names}

-- Inserting names preserves the index of a name in the table.
pub location_index-insert_names : (names ns : NameTable) (o : Option Bytes)
    → AreIn names (cons_option o [])
    → location_index (insert_names names ns) o ≡ location_index names o
location_index-insert_names names ns None all = refl
location_index-insert_names names ns (Some x) all = position_of_name-insert_names names ns x all.0

module _ {Syntax Stmt : Type 0} (grammar : Grammar Syntax Stmt) where
  -- The locations' names in a concatenation are those in its parts.
  pub names_in-append : (xs ys : List (CellSyntax Syntax))
      → names_in grammar (xs ++ ys) ≡ names_in grammar xs ++ names_in grammar ys
  names_in-append xs ys =
      ap (filter_map grammar.name_of) (statements-append xs ys)
      ∙ filter_map-append grammar.name_of (statements xs) (statements ys)

  -- Inserting names preserves the resolved code of a thread.
  pub code_in-insert_names : (names ns : NameTable) (t : List (CellSyntax Syntax))
      → AreIn names (names_in grammar t)
      → code_in grammar (insert_names names ns) t ≡ code_in grammar names t
  code_in-insert_names names ns t all =
      make-insert_names (filter_map grammar.name_of) _ (filter_map-append _) resolved_statement-insert_names names ns
      (statements t) all
    where
      -- Inserting names preserves a resolved statement, if the table has its name.
      resolved_statement-insert_names : (table more : NameTable) (s : Syntax)
          → AreIn table (named_by grammar s)
          → resolved_statement grammar (insert_names table more) t s ≡ resolved_statement grammar table t s
      resolved_statement-insert_names table more s there =
          ap (λ (x : ℕ). grammar.statement_of x (resolved_target t (grammar.label_of s)) s)
          (location_index-insert_names table more _ there)

  module _ (lawful : IsGrammar grammar) where
    -- Each of the statements is said by some tokens.
    abbrev pub HaveTokens : List Syntax → Type 0
    HaveTokens ss = AllByRecursion (λ (s : Syntax). (ts : TokenList) × grammar.says ts s) ss

    -- The syntax of some cells, and a table that has its names.
    module _ (names : NameTable) (syntaxes : List (CellSyntax Syntax)) where
      -- A resolved statement's location is in the table.
      location_index-in_range : (o : Option Bytes)
          → AreIn names (cons_option o [])
          → ForSome (option_map (λ n. location_index names o) o) (λ x. x < length names)
      location_index-in_range None all x same = absurd cc
      location_index-in_range (Some n) all x same =
          let f : position_of_name names n ≡ x = cc in
          subst (λ (l : ℕ). l < length names) f (position_of_name-within names n all.0)

      -- If statements have tokens, and their names are in the table, the resolved statements are well-formed.
      IsWellFormedStatement-all_resolved : (ss : List Syntax)
          → HaveTokens ss
          → AreIn names (filter_map grammar.name_of ss)
          → AllByRecursion (IsWellFormedStatement grammar.language (length names))
          (map (resolved_statement grammar names syntaxes) ss)
      IsWellFormedStatement-all_resolved [] said all = tt
      IsWellFormedStatement-all_resolved (s ∷ ss) said all =
          let x = location_index names (grammar.name_of s) in
          let to = resolved_target syntaxes (grammar.label_of s) in
          let parts =
          All-append_inv _ (named_by grammar s) (filter_map grammar.name_of ss)
          (subst (AreIn names) (filter_map-append grammar.name_of (s ∷ []) ss) all) in (
            (
              subst (λ (o : Option ℕ). ForSome o (λ y. y < length names)) (sym (lawful.located x to s))
                  (location_index-in_range (grammar.name_of s) parts.0),
              lawful.registers said.0.0 x to s said.0.1,
              lawful.numbers said.0.0 x to s said.0.1,
            ),
            IsWellFormedStatement-all_resolved ss said.1 parts.1,
          )

      -- A resolved jump targets the position of its label, which is later.
      resolved_target-forward : (k to : ℕ) (o : Option Bytes)
          → option_map (λ l. resolved_target syntaxes o) o ≡ Some to
          → ForSome o (λ l. k < target_in syntaxes l)
          → (k < to) × (to ≤ length (statements syntaxes))
      resolved_target-forward k to None e ahead = absurd cc
      resolved_target-forward k to (Some l) e ahead =
          let f : target_in syntaxes l ≡ to = cc in (omega (arith, f, ahead l refl), omega (arith, f, target_within syntaxes l))

      -- If the statements of a thread have tokens and names in the table, are within the limit, and jump only forward, the
      -- resolved thread is well-formed.
      pub IsWellFormedThread-code_in : HaveTokens (statements syntaxes)
          → AreIn names (names_in grammar syntaxes)
          → length (statements syntaxes) ≤ grammar.language.most
          → AllForward grammar syntaxes
          → IsWellFormedThread grammar.language (length names) (code_in grammar names syntaxes)
      IsWellFormedThread-code_in said all short ahead =
          let resolve = resolved_statement grammar names syntaxes in
          let long = length-map (statements syntaxes) resolve in
          record {
            short = omega (arith, short, long);
            statements_formed =
                All-from_recursion (IsWellFormedStatement grammar.language (length names)) (code_in grammar names syntaxes)
                (IsWellFormedStatement-all_resolved (statements syntaxes) said all);
            forward = λ k s at to e.
                let w =
                option_map-Some_inv resolve (slice_get (statements syntaxes) k) s
                (sym at ∙ slice_get-map resolve (statements syntaxes) k) in
                let x = location_index names (grammar.name_of w.0) in
                let is =
                sym (lawful.target_is x (resolved_target syntaxes (grammar.label_of w.0)) w.0)
                ∙ ap (λ (u : Stmt). branch_target (grammar.language.operation_of u)) (sym w.2)
                ∙ e in
                let t = resolved_target-forward k to (grammar.label_of w.0) is (λ l here. (ahead k w.0 w.1 l here).1) in
                (t.0, omega (arith, t.1, long));
          }
