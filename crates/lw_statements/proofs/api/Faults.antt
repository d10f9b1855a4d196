-- At most one fault of the same cells is true, and none of the cells of a test. The languages' proofs use this.
use Rattle.lw_statements.proofs.Common.{◌≡◌, ℕ, List, subst, sym, ap, AllZip, CellCause, Memory, CellFault}
use Rattle.lw_statements.proofs.Common.{NameTable, CellGrid, PlacedCell, TestFrame, Test, Grammar, IsGrammar}
use Rattle.lw_statements.proofs.Common.{Column, FrameHasTest, CellFaultIsTrue, texts_of_grid, ℕ_set}
use Rattle.lw_statements.proofs.OneFault.{no_true_fault-if_test, true_fault-unique}

-- Faults of the same place and cause are the same: their ghost field is a fact that has one proof.
CellFault-equal : (f g : CellFault) → f.at ≡ g.at → f.cause ≡ g.cause → f ≡ g
CellFault-equal f g e h = go g.at g.cause g.memory e h
  where
    -- Two proofs of a fact about memory are equal.
    memory_proofs_equal : (a : ℕ) (c : CellCause) (m n : c ≡ Memory → a ≡ 0) → m ≡ n
    memory_proofs_equal a c m n = λ i e. ℕ_set a 0 (m e) (n e) i

    -- If f has the place a and the cause c, it is the fault that is made of these.
    go : (a : ℕ) (c : CellCause) (m : c ≡ Memory → a ≡ 0)
        → f.at ≡ a
        → f.cause ≡ c
        → f ≡ (let k : CellFault = record { at = a; cause = c; memory = m } in k)
    go a c m e h =
        subst (λ (b : ℕ). (n : c ≡ Memory → b ≡ 0) → f ≡ (let k : CellFault = record { at = b; cause = c; memory = n } in k)) e
        (subst (λ (d : CellCause).
        (n : d ≡ Memory → f.at ≡ 0) → f ≡ (let k : CellFault = record { at = f.at; cause = d; memory = n } in k)) h (λ n.
        ap (λ (o : f.cause ≡ Memory → f.at ≡ 0). (let k : CellFault = record { at = f.at; cause = f.cause; memory = o } in k))
        (memory_proofs_equal f.at f.cause f.memory n))) m

module _ {Syntax Stmt : Type 0} (grammar : Grammar Syntax Stmt) (lawful : IsGrammar grammar) where
  -- At most one fault of the cells is true.
  pub CellFaultIsTrue-unique : (names : NameTable) (columns : List (List PlacedCell)) (f g : CellFault)
      → (f.cause ≡ Memory → ⊥)
      → (g.cause ≡ Memory → ⊥)
      → CellFaultIsTrue grammar names columns f
      → CellFaultIsTrue grammar names columns g
      → f ≡ g
  CellFaultIsTrue-unique names columns f g known also h k =
      let one = true_fault-unique grammar lawful names columns f.at g.at f.cause g.cause known also h k in
      CellFault-equal f g one.0 one.1

  -- No fault is true of the cells of a test.
  pub no_CellFault-if_test : (frame : TestFrame) (columns : List (List PlacedCell)) (f : CellFault) (test : Test Stmt)
      → texts_of_grid columns ≡ frame.cells
      → FrameHasTest grammar frame test
      → (f.cause ≡ Memory → ⊥)
      → CellFaultIsTrue grammar frame.head.locs columns f
      → ⊥
  no_CellFault-if_test frame columns f test same has known h =
      no_true_fault-if_test grammar lawful frame.head.locs columns f.at f.cause has.threads
      (subst (λ (cells : CellGrid). AllZip (Column grammar) cells has.threads) (sym same) has.says) has.bounded known h
