-- The cells of a text, with their positions, are unique; and its tokens are the slices of their spans. Two
-- laws of read.rt cite it.
use Rattle.lw_text.proofs.Common.{◌≡◌, ℕ, ◌+◌, ◌≤◌, List, [], ◌∷◌, ◌++◌, length, take, drop, refl, sym, ap}
use Rattle.lw_text.proofs.Common.{◌∙◌, subst, arith, append_assoc, length-append, take_at, take-append_seam}
use Rattle.lw_text.proofs.Common.{drop-append_seam, length-map, Bytes, Arch, arch_keyword, Preamble, columns}
use Rattle.lw_text.proofs.Common.{PlacedToken, texts_of_tokens, PlacedTokens, PlacedCell, texts_of_cells}
use Rattle.lw_text.proofs.Common.{texts_of_grid, CellsFrom, RowsFrom, HasRows, HasCells, Spans, IsSuffix}
use Rattle.lw_text.proofs.TriviaLemmas.{Trivia-suffix, Trivia-shorter}
use Rattle.lw_text.proofs.Lists.{IsSuffix-join}
use Rattle.lw_text.proofs.TokenRows.{PlacedTokens-unique}
use Rattle.lw_text.proofs.NoteRows.{Notes-suffix}
use Rattle.lw_text.proofs.Preambles.{Preamble-unique}
use Rattle.lw_text.proofs.Headers.{Names-unique}
use Rattle.lw_text.proofs.SiteLists.{Block-unique}
use Rattle.lw_text.proofs.Cells.{Rows-unique}

-- ---- uniqueness of cells

-- Equal lists split after the same length have equal parts.
append-equal_parts : {X : Type 0} (xs ys us vs : List X) → length xs ≡ length ys → xs ++ us ≡ ys ++ vs → (xs ≡ ys) × (us ≡ vs)
append-equal_parts xs ys us vs len e = (
  sym (take-append_seam xs us) ∙ ap (take (length xs)) e ∙ ap (λ (n : ℕ). take n (ys ++ vs)) len ∙ take-append_seam ys vs,
  sym (drop-append_seam xs us) ∙ ap (drop (length xs)) e ∙ ap (λ (n : ℕ). drop n (ys ++ vs)) len ∙ drop-append_seam ys vs,
)

-- Cells with the same tokens and the same end are equal.
placed_cells_equal : (a b : PlacedCell) → a.tokens ≡ b.tokens → a.end ≡ b.end → a ≡ b
placed_cells_equal a b tokens end =
    ap (λ ts. let c : PlacedCell = record { tokens = ts; end = a.end } in c) tokens
    ∙ ap (λ (n : ℕ). let c : PlacedCell = record { tokens = b.tokens; end = n } in c) end

-- Lists of tokens that are equal without positions have the same length.
length_equal-same_texts : (ts us : List PlacedToken) → texts_of_tokens ts ≡ texts_of_tokens us → length ts ≡ length us
length_equal-same_texts ts us e = sym (length-map ts (λ t. t.text)) ∙ ap length e ∙ length-map us (λ t. t.text)

-- Cells read from the same tokens that are equal without positions are equal, and so are the rests.
CellsFrom-unique : (ts a b : List PlacedToken) (xs ys : List PlacedCell)
    → CellsFrom ts xs a
    → CellsFrom ts ys b
    → texts_of_cells xs ≡ texts_of_cells ys
    → (xs ≡ ys) × (a ≡ b)
CellsFrom-unique ts a b [] [] p q e = (refl, sym p ∙ q)
CellsFrom-unique ts a b (x ∷ xs) (y ∷ ys) p q e =
    let head : texts_of_tokens x.tokens ≡ texts_of_tokens y.tokens = cc in
    let tail : texts_of_cells xs ≡ texts_of_cells ys = cc in
    let s = append-equal_parts x.tokens y.tokens _ (q.0 ∷ q.1) (length_equal-same_texts x.tokens y.tokens head) (sym p.2 ∙ q.2) in
    let later : p.0 ∷ p.1 ≡ q.0 ∷ q.1 = s.1 in
    let mark : p.0 ≡ q.0 = cc in
    let after : p.1 ≡ q.1 = cc in
    let more = CellsFrom-unique p.1 a b xs ys p.5 (subst (λ l. CellsFrom l ys b) (sym after) q.5) tail in
    let cell : x ≡ y = placed_cells_equal x y s.0 (sym p.4 ∙ ap (λ (m : PlacedToken). m.at) mark ∙ q.4) in
    let cells : xs ≡ ys = more.0 in
    (cc, more.1)
CellsFrom-unique ts a b _ _ p q e = absurd cc

-- Rows read from the same tokens that are equal without positions are equal.
RowsFrom-unique : (ts a b : List PlacedToken) (xs ys : List (List PlacedCell))
    → RowsFrom ts xs a
    → RowsFrom ts ys b
    → texts_of_grid xs ≡ texts_of_grid ys
    → xs ≡ ys
RowsFrom-unique ts a b [] [] p q e = refl
RowsFrom-unique ts a b (x ∷ xs) (y ∷ ys) p q e =
    let head : texts_of_cells x ≡ texts_of_cells y = cc in
    let tail : texts_of_grid xs ≡ texts_of_grid ys = cc in
    let s = CellsFrom-unique ts p.0 q.0 x y p.1 q.1 head in
    let row : x ≡ y = s.0 in
    let rows : xs ≡ ys = RowsFrom-unique p.0 a b xs ys p.2 (subst (λ l. RowsFrom l ys b) (sym s.1) q.2) tail in
    cc
RowsFrom-unique ts a b _ _ p q e = absurd cc

-- Tokens have a unique number of threads, and a unique list of rows with their positions.
HasRows-unique : (arch : Arch) (tokens : List PlacedToken) (m n : ℕ) (x y : List (List PlacedCell))
    → HasRows arch tokens m x
    → HasRows arch tokens n y
    → (m ≡ n) × (x ≡ y)
HasRows-unique arch tokens m n x y p q =
    let block =
    Block-unique arch (texts_of_tokens tokens) p.initializers q.initializers p.after_block q.after_block p.block q.block in
    let header = Names-unique 0 m n q.after_block _ _ (rw block.1 at p.header).0 q.header.0 in
    let whole = sym p.parts ∙ q.parts in
    let fronts : length p.front ≡ length q.front = omega (
      arith,
      ap length whole,
      length-append p.front p.after_header,
      length-append q.front q.after_header,
      length_equal-same_texts p.after_header q.after_header header.1,
    ) in
    let later = (append-equal_parts p.front q.front p.after_header q.after_header fronts whole).1 in
    let says = rw (header.0, header.1) at p.says in
    let rows = Rows-unique n _ _ _ (texts_of_grid x) (texts_of_grid y) says q.says in
    (header.0, RowsFrom-unique _ _ _ x y (subst (λ l. RowsFrom l x p.after_rows) later p.cut) q.cut rows.0)

-- The cells of a text, with their positions, are unique.
pub HasCells-unique : (text : Bytes) (c d : List (List PlacedCell)) → HasCells text c → HasCells text d → c ≡ d
HasCells-unique text c d p q =
    let head = Preamble-unique text p.arch p.name p.rest q.arch q.name q.rest p.preamble q.preamble in
    let stream = rw head.2 at p.stream in
    let tokens = PlacedTokens-unique (length text) p.tokens q.tokens q.rest stream q.stream in
    let has = rw (head.0, tokens) at p.has_rows in
    let rows = HasRows-unique q.arch q.tokens p.threads q.threads p.rows q.rows has q.has_rows in
    p.cells_are ∙ ap (λ (n : ℕ). columns n p.rows) rows.0 ∙ ap (columns q.threads) rows.1 ∙ sym q.cells_are

-- ---- the positions of tokens

-- Spans from a position on are spans from every earlier position on.
Spans-earlier : (text : Bytes) (from mid to : ℕ) (ts : List PlacedToken)
    → from ≤ mid
    → Spans text mid ts to
    → Spans text from ts to
Spans-earlier text from mid to [] le s = omega (arith, s, le)
Spans-earlier text from mid to (t ∷ ts) le s = (omega (arith, s.0, le), s.1, s.2)

-- The tokens of a suffix of the text have ascending spans in the text.
stream_spans : (text front rest : Bytes) (ts : List PlacedToken)
    → text ≡ front ++ rest
    → PlacedTokens (length text) rest ts
    → Spans text (length front) ts (length text)
stream_spans text front rest [] e p = omega (arith, ap length e, length-append front rest)
stream_spans text front rest (t ∷ ts) e p =
    let here = IsSuffix-join (front, e) (Trivia-suffix p.1.0) in
    let before = here.0 in
    let whole : text ≡ before ++ (t.text ++ p.0) = here.1 in
    let at : length before ≡ t.at =
    omega (arith, p.2, ap length whole, length-append before (t.text ++ p.0), length-append t.text p.0) in
    let later : length (before ++ t.text) ≡ t.at + length t.text = omega (arith, at, length-append before t.text) in (
      omega (arith, p.2, ap length e, length-append front rest, Trivia-shorter p.1.0, length-append t.text p.0),
      ap (take (length t.text))
          (ap (λ (k : ℕ). drop k text) (sym at) ∙ ap (drop (length before)) whole ∙ drop-append_seam before (t.text ++ p.0))
          ∙ take_at t.text p.0 (length t.text) refl,
      subst (λ (k : ℕ). Spans text k ts (length text)) later
          (stream_spans text (before ++ t.text) p.0 ts (whole ∙ sym (append_assoc before t.text p.0)) p.3),
    )

-- What follows a preamble is a suffix of its text.
preamble_rest : (text : Bytes) (arch : Arch) (name rest : Bytes) → Preamble text arch name rest → IsSuffix text rest
preamble_rest text arch name rest h =
    IsSuffix-join (Trivia-suffix h.2.0)
    (IsSuffix-join (arch_keyword arch, refl)
    (IsSuffix-join (h.3.blanks, h.3.parts) (IsSuffix-join (name, refl) (Notes-suffix h.4))))

-- The tokens of which a text's cells are parts have ascending spans in it.
pub tokens_spans : (text : Bytes) (cells : List (List PlacedCell)) (has : HasCells text cells)
    → Spans text 0 has.tokens (length text)
tokens_spans text cells has =
    let front = preamble_rest text has.arch has.name has.rest has.preamble in
    Spans-earlier text 0 _ _ _ (omega arith) (stream_spans text front.0 has.rest _ front.1 has.stream)
