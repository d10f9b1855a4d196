-- At each round the remaining tokens of the start are those of the cell and those that remain now, and no
-- token of the cell is a mark.
use Rattle.lw_text.proofs.Common.{◌≡◌, ◌++◌, false, length, AllByRecursion, ends_cell, token_texts, remaining}
use Rattle.lw_text.proofs.cursor.Cursor.parse_cell.Given as goal

abbrev pub invariant-cell : goal.invariant-cell
invariant-cell g l = record {
  tokens : remaining l.fn.self ≡ l.cell ++ remaining l.self;
  plain : AllByRecursion (λ t. ends_cell t ≡ false) (token_texts l.cell);
}

abbrev pub decreases-cell : goal.decreases-cell
decreases-cell g l = length (remaining l.self)
