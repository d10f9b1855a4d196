-- Cells and rows have unique parses. Then when rows have been read up to their end, and when there are none.
-- A step of the proof that a text has one frame, and the lemmas by which `parse_rows` returns.
use Rattle.lw_text.proofs.Common.{most_rows, ◌≡◌, ℕ, ◌<◌, ◌≤◌, inl, inr, true, false, [], ◌∷◌, ◌++◌, length}
use Rattle.lw_text.proofs.Common.{refl, sym, ap, ◌∙◌, subst, arith, length-append, codes, bytes_eq, or_cases}
use Rattle.lw_text.proofs.Common.{ParsesNothing, Bytes, TokenList, Cells, CellGrid, ParsesSepBy}
use Rattle.lw_text.proofs.Common.{ParsesManyTill, ends_cell, Row, begins_stop, Rows}
use Rattle.lw_text.specs.Rows.{Cell}
use Rattle.lw_text.proofs.Texts.{bytes_equal, not-bar_is_semicolon}
use Rattle.lw_text.proofs.api.CellTokens.{EndsNoCell}
use Rattle.lw_text.proofs.Lists.{ParsesMany-push, AreReadTill, ParsesManyTill-at_stop, ParsesManyTill-peel}
use Rattle.lw_text.proofs.Lists.{ParsesManyTill-unique, AreReadSepBy, IsDeterministic}
use Rattle.lw_text.proofs.Lists.{not-ParsesSepBy-if_rest_is_none, IsListPunctuation, IsExact}
use Rattle.lw_text.proofs.Lists.{ParsesSepBy-front, ParsesSepBy-unique}

-- The tokens ts are w, of which none ends a cell, then a, which ends one, and then the rest.
record IsCut (ts w : TokenList) (a : Bytes) (rest : TokenList) : Type 0 where
  pub parts : ts ≡ w ++ a ∷ rest
  pub plain : EndsNoCell w
  pub ends : ends_cell a ≡ true

-- The split at the first token that ends a cell is unique.
split-unique : (w v : TokenList) {ts r s : TokenList} {a b : Bytes}
    → IsCut ts w a r
    → IsCut ts v b s
    → (w ≡ v) × (a ≡ b) × (r ≡ s)
split-unique [] [] p q = let e = sym p.parts ∙ q.parts in (refl, cc, cc)
split-unique [] (c ∷ v) {a = a} p q =
    absurd (let e = sym p.parts ∙ q.parts in
    let k : a ≡ c = cc in
    let h = ap ends_cell k in
    let i = p.ends in
    cc (q.plain.0))
split-unique (c ∷ w) [] {b = b} p q =
    absurd (let e = sym p.parts ∙ q.parts in
    let k : c ≡ b = cc in
    let h = ap ends_cell k in
    let i = q.ends in
    cc (p.plain.0))
split-unique (c ∷ w) (d ∷ v) {r = r} {s = s} {a = a} {b = b} p q =
    let e : c ∷ (w ++ a ∷ r) ≡ d ∷ (v ++ b ∷ s) = sym p.parts ∙ q.parts in
    let both : (w ≡ v) × (a ≡ b) × (r ≡ s) =
    split-unique w v {ts = w ++ a ∷ r} (record { parts = refl; plain = p.plain.1; ends = p.ends })
    (record { parts = cc; plain = q.plain.1; ends = q.ends }) in
    (cc, both.1, both.2)

-- `|` and `;` end a cell.
mark_ends : (a : Bytes) → IsListPunctuation Cell (codes "|") (codes ";") a → ends_cell a ≡ true
mark_ends a (inl e) = ap ends_cell e
mark_ends a (inr e) = ap ends_cell e

-- The parse of a cell and the mark after it is unique.
pub Cell-exact : IsExact Cell (codes "|") (codes ";")
Cell-exact ts x y a b r s m n p q =
    split-unique x y (record { parts = p.0; plain = p.1; ends = mark_ends a m })
    (record { parts = q.0; plain = q.1; ends = mark_ends b n })

-- The parse of a row with a cell for each thread is unique.
pub Row-unique : (threads : ℕ) → IsDeterministic (Row threads)
Row-unique threads ts x y r s p q = ParsesSepBy-unique Cell _ (codes ";") Cell-exact not-bar_is_semicolon x y ts r s p.0 q.0

-- A token that ends a cell and is not `;` is `|`.
pub mark_is_bar : (m : Bytes) → ends_cell m ≡ true → bytes_eq m (codes ";") ≡ false → m ≡ codes "|"
mark_is_bar m e n = elim (or_cases (bytes_eq m (codes "|")) (bytes_eq m (codes ";")) e) [
  | inl h ↦ bytes_equal m (codes "|") h
  | inr h ↦ absurd cc
]

-- If no token of a list ends a cell, the list has no token m that ends one.
no_mark_in_cell : (x : TokenList) (m : Bytes) (l : TokenList) → EndsNoCell (x ++ m ∷ l) → ends_cell m ≡ true → ⊥
no_mark_in_cell [] m l p e = let h = p.0 in cc
no_mark_in_cell (t ∷ x) m l p e = no_mark_in_cell x m l p.1 e

module _ (ts here : TokenList) (cells : Cells) (before : AreReadSepBy Cell (codes "|") (codes ";") ts cells here) where
  -- If no token that ends a cell follows the cells read, there is no row.
  pub no_cells-if_no_mark : EndsNoCell here → ParsesNothing (ParsesSepBy Cell (codes "|") (codes ";") ts)
  no_cells-if_no_mark plain all rest row =
      not-ParsesSepBy-if_rest_is_none Cell _ _ Cell-exact not-bar_is_semicolon _ all ts _ rest before (λ zs l s.
      let f = ParsesSepBy-front Cell _ _ zs here l s in
      no_mark_in_cell f.0 f.1 f.2 (subst EndsNoCell f.4.0 plain) (mark_ends f.1 f.3)) row

-- If a row's number of cells is not the number of threads, it is no row of the test.
pub no_row-if_count_differs : (ts next : TokenList) (cells : Cells)
    → ParsesSepBy Cell (codes "|") (codes ";") ts cells next
    → (threads : ℕ)
    → (length cells ≡ threads → ⊥)
    → ParsesNothing (Row threads ts)
no_row-if_count_differs ts next cells row threads ne all rest line =
    ne (ap length
    (ParsesSepBy-unique Cell (codes "|") (codes ";") Cell-exact not-bar_is_semicolon cells all ts next rest row line.0).0
    ∙ line.1)

-- ---- rows

-- A cell with its mark takes at least one token.
cell_shorter : (ts c : TokenList) (m : Bytes) (rest : TokenList) → Cell ts c (m ∷ rest) → length rest < length ts
cell_shorter ts c m rest p = omega (arith, ap length p.0, length-append c (m ∷ rest))

-- A row of cells takes at least one token.
cells_shorter : (cells : Cells) (ts rest : TokenList)
    → ParsesSepBy Cell (codes "|") (codes ";") ts cells rest
    → length rest < length ts
cells_shorter [] ts rest s = absurd s
cells_shorter (c ∷ []) ts rest s = cell_shorter ts c (codes ";") rest s
cells_shorter (c ∷ d ∷ cells) ts rest s =
    omega (arith, cell_shorter ts c (codes "|") s.0 s.1, cells_shorter (d ∷ cells) s.0 rest s.2)

-- A row with a cell for each thread takes at least one token.
pub Row-shorter : (threads : ℕ) (cells : Cells) (ts rest : TokenList) → Row threads ts cells rest → length rest < length ts
Row-shorter threads cells ts rest l = cells_shorter cells ts rest l.0

module _ (threads : ℕ) (ts here : TokenList) (rows : CellGrid) (passed : AreReadTill begins_stop (Row threads) ts rows here) where
  -- If the next token ends the rows, the rows read are all, if they are not too many.
  pub Rows-at_stop : begins_stop here ≡ true → length rows ≤ most_rows → Rows threads ts rows here
  Rows-at_stop stop few = (ParsesManyTill-at_stop begins_stop (Row threads) rows ts here passed stop, few)

  -- If the next token does not end the rows, and a row follows, it is one more row read.
  pub AreReadTill-next_row : (next : TokenList) (row : Cells)
      → begins_stop here ≡ false
      → Row threads here row next
      → AreReadTill begins_stop (Row threads) ts (rows ++ row ∷ []) next
  AreReadTill-next_row next row go line = ParsesMany-push _ rows ts here next row passed (go, line)

  -- If the next token does not end the rows, and the tokens have rows, these are the rows read, then the next row, and others.
  next_row : begins_stop here ≡ false
      → (all : CellGrid) (rest : TokenList)
      → Rows threads ts all rest
      → (row : Cells) × (more : CellGrid) × (mid : TokenList) × (all ≡ rows ++ row ∷ more) × Row threads here row mid
  next_row go all rest r =
      let peel = ParsesManyTill-peel begins_stop (Row threads) (Row-unique threads) rows all ts here rest passed r.0 in
      rows_continue-by_more peel.0 peel.1 peel.2
    where
      -- The rows after those read begin with one more row, since the next token does not end the rows.
      rows_continue-by_more : (more : CellGrid)
          → all ≡ rows ++ more
          → ParsesManyTill begins_stop (Row threads) here more rest
          → (row : Cells) × (more : CellGrid) × (mid : TokenList) × (all ≡ rows ++ row ∷ more) × Row threads here row mid
      rows_continue-by_more [] e u = absurd (let h = u.1 in cc)
      rows_continue-by_more (row ∷ more) e u = (row, more, u.1.0, e, u.1.1)

  -- If the next token does not end the rows, and no row follows, the tokens have no rows.
  pub no_rows-if_no_row : begins_stop here ≡ false → ParsesNothing (Row threads here) → ParsesNothing (Rows threads ts)
  no_rows-if_no_row go never all rest r = let k = next_row go all rest r in never k.0 k.2 k.4

  -- If the maximum number of rows has been read, and the next token does not end the rows, the tokens have no rows.
  pub no_rows-if_too_many : begins_stop here ≡ false → length rows ≡ most_rows → ParsesNothing (Rows threads ts)
  no_rows-if_too_many go full all rest r =
      let k = next_row go all rest r in omega (arith, ap length k.3, length-append rows (k.0 ∷ k.1), r.1)

-- The parse of a test's rows is unique.
pub Rows-unique : (threads : ℕ) (ts a b : TokenList) (x y : CellGrid)
    → Rows threads ts x a
    → Rows threads ts y b
    → (x ≡ y) × (a ≡ b)
Rows-unique threads ts a b x y p q = ParsesManyTill-unique begins_stop _ (Row-unique threads) x y ts a b p.0 q.0
