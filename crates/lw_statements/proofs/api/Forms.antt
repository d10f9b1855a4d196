-- Tokens say at most one statement, and a lawful spelling is a grammar as the rule of cells requires: so
-- whoever proves a spelling lawful may cite all laws of cells.
use Rattle.lw_statements.proofs.Common.{◌≡◌, ℕ, zero, suc, ◌<◌, Bool, true, Option, Some, List, [], ◌∷◌}
use Rattle.lw_statements.proofs.Common.{length, get_or, sym, ap, ◌∙◌, subst, arith, codes, Contains}
use Rattle.lw_statements.proofs.Common.{slice_get, AllByRecursion, list_all, ForSome, and_parts, same_Some}
use Rattle.lw_statements.proofs.Common.{none-some, All-from_recursion, IsUnreservedName, IsRegisterIndex}
use Rattle.lw_statements.proofs.Common.{IsWordNumber, Bytes, TokenList, registers_of, numbers_of, Operation}
use Rattle.lw_statements.proofs.Common.{Operands, Slot, Register, Location, Value, Number, IsGrammar}
use Rattle.lw_statements.proofs.Common.{Spelling, Filling, Gives, Fills, ParsesStatement, grammar_of, name_in}
use Rattle.lw_statements.proofs.Common.{are_disjoint_forms, all_disjoint, is_statement, is_label_last}
use Rattle.lw_statements.proofs.Common.{registers_in, numbers_in, IsSpelling}
use Rattle.lw_statements.proofs.Slots.{Fills-unique, not-Fills-disjoint, no_colon-in_other_slot}
use Rattle.lw_base.specs.declared.operand.Operand.TheVariants as operand

-- If all elements of a list pass a test, each does.
pub list_all-get : {X : Type 0} (test : X → Bool) (xs : List X) (k : ℕ) (x : X)
    → list_all test xs ≡ true
    → k < length xs
    → get_or xs k x ≡ x
    → test x ≡ true
list_all-get test [] k x all h e = absurd (omega (arith, h))
list_all-get test (y ∷ xs) zero x all h e = ap test (sym e) ∙ (and_parts (test y) (list_all test xs) all).0
list_all-get test (y ∷ xs) (suc k) x all h e =
    list_all-get test xs k x (and_parts (test y) (list_all test xs) all).1 (omega (arith, h)) e

module _ {W Form Stmt : Type 0} (spelling : Spelling W Form Stmt) where
  -- Tokens fill the slots of at most one form.
  module _ (ts : TokenList) (a b : Form) (f : Filling (spelling.slots_of a)) (g : Filling (spelling.slots_of b))
      (x : Fills spelling ts (spelling.slots_of a) f) (y : Fills spelling ts (spelling.slots_of b) g) where
    -- Tests whether two forms differ in a keyword.
    abbrev are_others : Form → Form → Bool
    are_others form other = are_disjoint_forms spelling (spelling.slots_of form) (spelling.slots_of other)

    -- Two forms of a list in which all differ are equal, if the same tokens fill both.
    form_unique : (forms : List Form) → all_disjoint spelling forms ≡ true → Contains forms a → Contains forms b → a ≡ b
    form_unique [] all (i, less, e) there = absurd (omega (arith, less))
    form_unique (form ∷ forms) all (zero, less, e) (zero, more, h) = sym e ∙ h
    form_unique (form ∷ forms) all (zero, less, e) (suc j, more, h) =
        let others =
        list_all-get (are_others form) forms j b
        (and_parts (list_all (are_others form) forms) (all_disjoint spelling forms) all).0 (omega (arith, more)) h in
        absurd (not-Fills-disjoint spelling ts (spelling.slots_of a) (spelling.slots_of b) f g (rw e at others) x y)
    form_unique (form ∷ forms) all (suc i, less, e) (zero, more, h) =
        let others =
        list_all-get (are_others form) forms i a
        (and_parts (list_all (are_others form) forms) (all_disjoint spelling forms) all).0 (omega (arith, less)) e in
        absurd (not-Fills-disjoint spelling ts (spelling.slots_of b) (spelling.slots_of a) g f (rw h at others) y x)
    form_unique (form ∷ forms) all (suc i, less, e) (suc j, more, h) =
        form_unique forms (and_parts (list_all (are_others form) forms) (all_disjoint spelling forms) all).1
        (i, omega (arith, less), e) (j, omega (arith, more), h)

  -- If all forms differ, tokens say at most one statement.
  ParsesStatement-unique : all_disjoint spelling spelling.forms ≡ true
      → (ts : TokenList) (s t : ParsesStatement spelling)
      → (grammar_of spelling).says ts s
      → (grammar_of spelling).says ts t
      → s ≡ t
  ParsesStatement-unique all ts s t x y = go _ (form_unique ts _ _ _ _ x.1 y.1 spelling.forms all x.0 y.0) t.filling y.1
    where
      -- By the form of t, which is that of s.
      go : (b : Form)
          → s.form ≡ b
          → (g : Filling (spelling.slots_of b))
          → Fills spelling ts (spelling.slots_of b) g
          → s ≡ record { form = b; filling = g }
      go b e =
          subst (λ (c : Form).
          (g : Filling (spelling.slots_of c)) → Fills spelling ts (spelling.slots_of c) g → s ≡ record { form = c; filling = g })
          e (λ g h.
          ap (λ (f : Filling (spelling.slots_of s.form)).
          (let r : ParsesStatement spelling = record { form = s.form; filling = f } in r))
          (Fills-unique spelling ts (spelling.slots_of s.form) s.filling g x.1 h))

  -- A statement has at least one token.
  not-empty-is_statement : (slots : List (Slot W)) (f : Filling slots)
      → is_statement spelling slots ≡ true
      → Fills spelling [] slots f
      → ⊥
  not-empty-is_statement [] f is h = absurd cc
  not-empty-is_statement (slot ∷ slots) f is h = h

  -- The second token of a statement is not `:`.
  no_colon-if_statement : (ts : TokenList) (slots : List (Slot W)) (f : Filling slots)
      → is_statement spelling slots ≡ true
      → Fills spelling ts slots f
      → slice_get ts 1 ≡ Some (codes ":")
      → ⊥
  no_colon-if_statement [] slots f is h e = absurd cc
  no_colon-if_statement (t ∷ []) slots f is h e = absurd cc
  no_colon-if_statement (t ∷ u ∷ ts) [] f is h e = h
  no_colon-if_statement (t ∷ u ∷ ts) (a ∷ []) f is h e = h.1
  no_colon-if_statement (t ∷ u ∷ ts) (a ∷ b ∷ slots) f is h e =
      no_colon-in_other_slot spelling b slots f.1.0 is
      (subst (λ (w : Bytes). Gives spelling w b f.1.0) (let same : u ≡ codes ":" = cc in same) h.1.0)

  -- The registers and numbers that tokens give are in range.
  registers_and_numbers-Fills : (ts : TokenList) (slots : List (Slot W)) (f : Filling slots)
      → Fills spelling ts slots f
      → AllByRecursion IsRegisterIndex (registers_in slots f) × AllByRecursion IsWordNumber (numbers_in slots f)
  registers_and_numbers-Fills ts [] f h = (tt, tt)
  registers_and_numbers-Fills [] (slot ∷ slots) f h = absurd h
  registers_and_numbers-Fills (t ∷ ts) (Register ∷ slots) (r, f) h =
      let more = registers_and_numbers-Fills ts slots f h.1 in ((h.0.0, more.0), more.1)
  registers_and_numbers-Fills (t ∷ ts) (Value ∷ slots) (operand.Register r, f) h =
      let more = registers_and_numbers-Fills ts slots f h.1 in ((h.0.0, more.0), more.1)
  registers_and_numbers-Fills (t ∷ ts) (Value ∷ slots) (operand.Number n, f) h =
      let more = registers_and_numbers-Fills ts slots f h.1 in (more.0, (h.0.0, more.1))
  registers_and_numbers-Fills (t ∷ ts) (Number ∷ slots) (n, f) h =
      let more = registers_and_numbers-Fills ts slots f h.1 in (more.0, (h.0.0, more.1))
  registers_and_numbers-Fills (t ∷ ts) (slot ∷ slots) (g, f) h = registers_and_numbers-Fills ts slots f h.1

  -- The name of a location is allowed.
  IsUnreservedName-name_in : (ts : TokenList) (slots : List (Slot W)) (f : Filling slots)
      → Fills spelling ts slots f
      → ForSome (name_in slots f) IsUnreservedName
  IsUnreservedName-name_in ts [] f h = λ n e. absurd (none-some n e)
  IsUnreservedName-name_in [] (slot ∷ slots) f h = absurd h
  IsUnreservedName-name_in (t ∷ ts) (Location ∷ slots) (x, f) h = λ n e. subst IsUnreservedName (same_Some x n e) h.0.1
  IsUnreservedName-name_in (t ∷ ts) (slot ∷ slots) (g, f) h = IsUnreservedName-name_in ts slots f h.1

  -- The name of a location in each statement that tokens say is allowed.
  pub IsUnreservedName-name_of : (ts : TokenList) (s : ParsesStatement spelling)
      → (grammar_of spelling).says ts s
      → ForSome ((grammar_of spelling).name_of s) IsUnreservedName
  IsUnreservedName-name_of ts s says = IsUnreservedName-name_in ts (spelling.slots_of s.form) s.filling says.1

  module _ (made : Form → Operands → Option Stmt) (lawful : IsSpelling spelling made) where
    -- The slots of each form are those of a statement, and its label, if it has one, comes last.
    pub well_spelled : (form : Form)
        → Contains spelling.forms form
        → (is_statement spelling (spelling.slots_of form) ≡ true) × (is_label_last spelling (spelling.slots_of form) ≡ true)
    well_spelled form (k, less, e) =
        and_parts (is_statement spelling (spelling.slots_of form)) (is_label_last spelling (spelling.slots_of form))
        (list_all-get _ spelling.forms k form lawful.statements less e)

    -- The operation of the statement that the tokens say, with this location and target.
    abbrev operation : ℕ → ℕ → ParsesStatement spelling → Operation
    operation x to s = spelling.language.operation_of (spelling.statement x to s.form s.filling)

    -- The registers and numbers of a statement's operation are in range.
    operands_in_range-Fills : (ts : TokenList) (x to : ℕ) (s : ParsesStatement spelling)
        → (grammar_of spelling).says ts s
        → AllByRecursion IsRegisterIndex (registers_of (operation x to s))
        × AllByRecursion IsWordNumber (numbers_of (operation x to s))
    operands_in_range-Fills ts x to s says =
        let g = registers_and_numbers-Fills ts (spelling.slots_of s.form) s.filling says.1 in
        (lawful.makes_statements x to s.form s.filling).operands_in_range g.0 g.1

    -- A lawful spelling gives a grammar that satisfies the rules of cells.
    pub IsGrammar-of_spelling : IsGrammar (grammar_of spelling)
    IsGrammar-of_spelling = record {
      countable = lawful.countable;
      deterministic = ParsesStatement-unique lawful.disjoint;
      some = λ ts s says none.
          not-empty-is_statement (spelling.slots_of s.form) s.filling (well_spelled s.form says.0).0
          (subst (λ (us : TokenList). Fills spelling us (spelling.slots_of s.form) s.filling) none says.1);
      no_label = λ ts s says colon. no_colon-if_statement ts _ s.filling (well_spelled s.form says.0).0 says.1 colon;
      located = λ x to s. (lawful.makes_statements x to s.form s.filling).located;
      target_is = λ x to s. (lawful.makes_statements x to s.form s.filling).target_is;
      registers = λ ts x to s says. All-from_recursion IsRegisterIndex _ (operands_in_range-Fills ts x to s says).0;
      numbers = λ ts x to s says. All-from_recursion IsWordNumber _ (operands_in_range-Fills ts x to s says).1;
    }
