-- A cell has at most one parse, and so have the cells of a thread. So a fault cannot be avoided by reading
-- the same tokens otherwise.
use Rattle.lw_statements.proofs.Common.{◌≡◌, Option, Some, None, List, refl, sym, ap, subst, slice_get}
use Rattle.lw_statements.proofs.Common.{TokenList, Cells, Grammar, IsGrammar, CellSyntax, MaybeStatement}
use Rattle.lw_statements.proofs.Common.{ParsesCell, Column, BeginsWithLabel}
use Rattle.lw_statements.proofs.FrontLabels.{Labels-unique}
use Rattle.lw_statements.proofs.api.Zips.{AllZip-unique}

module _ {Syntax Stmt : Type 0} (grammar : Grammar Syntax Stmt) (lawful : IsGrammar grammar) where
  -- What follows a cell's labels, a statement or nothing, has no `:` after its first token.
  pub no_label-if_statement : (ts : TokenList) (o : Option Syntax) → MaybeStatement grammar ts o → BeginsWithLabel ts → ⊥
  no_label-if_statement ts None h at = let e : slice_get ts 1 ≡ None = ap (λ (t : TokenList). slice_get t 1) h in absurd cc
  no_label-if_statement ts (Some s) h at = lawful.no_label ts s h at

  -- What follows a cell's labels is read in one way.
  MaybeStatement-unique : (ts : TokenList) (o p : Option Syntax)
      → MaybeStatement grammar ts o
      → MaybeStatement grammar ts p
      → o ≡ p
  MaybeStatement-unique ts None None h k = refl
  MaybeStatement-unique ts None (Some s) h k = absurd (lawful.some ts s k h)
  MaybeStatement-unique ts (Some s) None h k = absurd (lawful.some ts s h k)
  MaybeStatement-unique ts (Some s) (Some t) h k = ap Some (lawful.deterministic ts s t h k)

  -- A cell has at most one parse.
  pub ParsesCell-unique : (cell : TokenList) (x y : CellSyntax Syntax)
      → ParsesCell grammar cell x
      → ParsesCell grammar cell y
      → x ≡ y
  ParsesCell-unique cell x y h k =
      let ls =
      Labels-unique cell h.0 k.0 x.labels y.labels h.1 k.1 (no_label-if_statement h.0 x.stmt h.2)
      (no_label-if_statement k.0 y.stmt k.2) in
      let s =
      MaybeStatement-unique h.0 x.stmt y.stmt h.2 (subst (λ (t : TokenList). MaybeStatement grammar t y.stmt) (sym ls.1) k.2) in
      cell_syntax_equal x.labels y.labels x.stmt y.stmt ls.0 s
    where
      -- Cells with the same labels and the same statement are the same.
      cell_syntax_equal : (a b : TokenList) (o p : Option Syntax)
          → a ≡ b
          → o ≡ p
          → (let l : CellSyntax Syntax = record { labels = a; stmt = o } in l) ≡ record { labels = b; stmt = p }
      cell_syntax_equal a b o p e f = rw (e, f) refl

  -- The cells of a thread have at most one parse.
  pub Column-unique : (cells : Cells) (s t : List (CellSyntax Syntax)) → Column grammar cells s → Column grammar cells t → s ≡ t
  Column-unique cells s t h k = AllZip-unique (ParsesCell grammar) ParsesCell-unique cells s t h.says k.says
