-- At most one cause and place of a fault is true of the same cells, and none of cells that have a test. Faults come in the order of the
-- threads, of each thread's cells, then of its jumps, and of each cell's tokens; what is read before the later one excludes the earlier.
use Rattle.lw_statements.proofs.Common.{◌≡◌, ℕ, ◌≤◌, ◌+◌, ◌*◌, inl, inr, ◌⊎◌, Option, Some, None, List, []}
use Rattle.lw_statements.proofs.Common.{◌∷◌, ◌++◌, length, length-append, refl, sym, ap, ◌∙◌, subst, arith}
use Rattle.lw_statements.proofs.Common.{slice_get, codes, Contains, MatchOption, append_assoc, append-nil}
use Rattle.lw_statements.proofs.Common.{AllZip, AllByRecursion, map-append, length-map, flat_map-append}
use Rattle.lw_statements.proofs.Common.{slice_get-append_middle, All-from_recursion, All-contains}
use Rattle.lw_statements.proofs.Common.{AllByRecursion-append, cons_option, cases_Bool, ltb, ltb-true}
use Rattle.lw_statements.proofs.Common.{ltb-false, CellCause, LabelMissing, LabelTwice, Backward, TooMany}
use Rattle.lw_statements.proofs.Common.{Memory, most_locations, IsDuplicateFree, IsUnreservedName}
use Rattle.lw_statements.proofs.Common.{insert_names, insert_names-append, length_le-insert_names, Bytes}
use Rattle.lw_statements.proofs.Common.{NameTable, TokenList, CellGrid, Cells, PlacedCell, texts_of_tokens}
use Rattle.lw_statements.proofs.Common.{Grammar, IsGrammar, CellSyntax, MaybeStatement, ParsesCell, Column}
use Rattle.lw_statements.proofs.Common.{Labels, statements, labels_of, target_in, names_in, names_of}
use Rattle.lw_statements.proofs.Common.{LabelsLeadForward, cell_without_labels, CellPosition, TokenPosition}
use Rattle.lw_statements.proofs.Common.{IsReadTo, IsBegun, IsWrong, EndsEarly, IsSecondLabel, IsSurplus}
use Rattle.lw_statements.proofs.Common.{IsNinth, IsJumpLabel, CellCauseIsTrue, BeginsFitting, BeginsWithLabel}
use Rattle.lw_statements.proofs.Common.{table_after, all_syntaxes, texts_of_cells, texts_of_grid, PlacedToken}
use Rattle.lw_statements.proofs.CellFaults.{IsFront, IsStuck, split_order, labels_length, not-longer-IsStuck}
use Rattle.lw_statements.proofs.CellFaults.{IsStuck-unique, not-IsStuck-if_whole_cell}
use Rattle.lw_statements.proofs.CellsRefused.{IsDuplicateFree-front}
use Rattle.lw_statements.proofs.Leads.{statements-append, count-append, labels_of-append}
use Rattle.lw_statements.proofs.OneReading.{ParsesCell-unique, Column-unique, no_label-if_statement}
use Rattle.lw_statements.proofs.ResolvedNames.{names_in-append}
use Rattle.lw_statements.proofs.api.Zips.{Cut-AllZip, AllZip-unique}
use Rattle.lw_base.specs.declared.fault.CellCause.TheVariants as cause

-- A list whose item at index 0 is a is a, followed by others.
cons-get_zero : (ts : TokenList) (a : Bytes) → slice_get ts 0 ≡ Some a → (more : TokenList) × (ts ≡ a ∷ more)
cons-get_zero [] a e = absurd cc
cons-get_zero (t ∷ ts) a e = (ts, (let same : t ≡ a = cc in ap (λ (u : Bytes). u ∷ ts) same))

-- If two lists with one item appended are equal, so are these items.
snoc-injective : {X : Type 0} (xs zs : List X) (x z : X) → xs ++ x ∷ [] ≡ zs ++ z ∷ [] → x ≡ z
snoc-injective xs zs x z e =
    let long : length (xs ++ x ∷ []) ≡ length (zs ++ z ∷ []) = ap length e in
    elim (split_order xs zs x z [] [] e) [
      | inl (a, b, k) ↦ b
      | inr (inl (more, a)) ↦
          absurd (omega (
            arith,
            long,
            length-append xs (x ∷ []),
            length-append zs (z ∷ []),
            ap length a,
            length-append xs (x ∷ more),
          ))
      | inr (inr (more, a)) ↦
          absurd (omega (
            arith,
            long,
            length-append xs (x ∷ []),
            length-append zs (z ∷ []),
            ap length a,
            length-append zs (z ∷ more),
          ))
    ]

-- There is no item at the length of a list.
slice_get-length : {X : Type 0} (xs : List X) → slice_get xs (length xs) ≡ None
slice_get-length [] = refl
slice_get-length (x ∷ xs) = slice_get-length xs

-- All labels of a cell are names that a label or a location may have.
labels_named : (ts rest : TokenList) (ls : List Bytes) → Labels ts ls rest → AllByRecursion IsUnreservedName ls
labels_named ts rest [] h = tt
labels_named ts rest (l ∷ ls) h = (h.2, labels_named h.0 rest ls h.3)

module _ {Syntax Stmt : Type 0} (grammar : Grammar Syntax Stmt) (lawful : IsGrammar grammar) where
  -- All labels of cells are names that a label or a location may have.
  cells_named : (cells : Cells) (syntaxes : List (CellSyntax Syntax))
      → AllZip (ParsesCell grammar) cells syntaxes
      → AllByRecursion IsUnreservedName (labels_of syntaxes)
  cells_named [] [] h = tt
  cells_named (cell ∷ cells) (syntax ∷ syntaxes) h =
      AllByRecursion-append IsUnreservedName syntax.labels (labels_of syntaxes) (labels_named cell h.0.0 syntax.labels h.0.1)
      (cells_named cells syntaxes h.1)
  cells_named cells syntaxes h = absurd h

  -- ---- a fault in a cell

  -- A fault in a cell, after threads and cells above with this content: what can be continued to its place, and why no further.
  record Faulty (names : NameTable) (threads : List (List (CellSyntax Syntax))) (syntaxes : List (CellSyntax Syntax))
      (cell : PlacedCell) (at : ℕ) (c : CellCause) : Type 0 where
    labels : List Bytes
    mid : TokenList
    rest : TokenList
    front : IsFront grammar (length (statements syntaxes)) (labels_of syntaxes) (table_after grammar names threads syntaxes)
        (texts_of_tokens cell.tokens) labels mid rest
    stuck : IsStuck grammar (length (statements syntaxes)) (labels_of syntaxes) (table_after grammar names threads syntaxes)
        (texts_of_tokens cell.tokens) labels mid rest c
    offset : MatchOption (slice_get cell.tokens (2 * length labels + length mid)) (cell.end ≡ at) (λ t. t.at ≡ at)

  -- A fault in a cell among the columns, and what is read before.
  record CellFaulty (names : NameTable) (columns : List (List PlacedCell)) (at : ℕ) (c : CellCause) : Type 0 where
    place : CellPosition columns
    threads : List (List (CellSyntax Syntax))
    syntaxes : List (CellSyntax Syntax)
    before_says : AllZip (Column grammar) (texts_of_grid place.before) threads
    says : AllZip (ParsesCell grammar) (texts_of_cells place.above) syntaxes
    bounded : length (statements syntaxes) ≤ grammar.language.most
    without_duplicates : IsDuplicateFree (labels_of syntaxes)
    room : length (table_after grammar names threads syntaxes) ≤ most_locations
    faulty : Faulty names threads syntaxes place.cell at c

  -- Tokens that begin with labels do so when others follow.
  labels_before : (front rest : TokenList) (ls : List Bytes) (mid : TokenList)
      → Labels front ls mid
      → Labels (front ++ rest) ls (mid ++ rest)
  labels_before front rest [] mid h = ap (λ (ts : TokenList). ts ++ rest) h
  labels_before front rest (l ∷ ls) mid h =
      (h.0 ++ rest, ap (λ (ts : TokenList). ts ++ rest) h.1, h.2, labels_before h.0 rest ls mid h.3)

  module _ (names : NameTable) (columns : List (List PlacedCell)) (at : ℕ) (c : CellCause) where
    -- A token at which the reading is stuck is a fault of its cell.
    CellFaulty-of_token : (p : TokenPosition columns at) (mid : TokenList)
        (r : IsReadTo grammar names p.place (texts_of_tokens p.front) mid)
        → ((mid ≡ [] → ⊥) → IsBegun grammar r)
        → (BeginsWithLabel (mid ++ p.token.text ∷ texts_of_tokens p.back) → ⊥) ⊎ (mid ≡ [])
        → IsStuck grammar (length (statements r.syntaxes)) (labels_of r.syntaxes) (table_after grammar names r.threads r.syntaxes)
        (texts_of_tokens p.place.cell.tokens) r.labels mid (p.token.text ∷ texts_of_tokens p.back) c
        → CellFaulty names columns at c
    CellFaulty-of_token p mid r begun phase stuck = record {
      place = p.place;
      threads = r.threads;
      syntaxes = r.syntaxes;
      before_says = r.read.before_says;
      says = r.read.says;
      bounded = r.read.bounded;
      without_duplicates = IsDuplicateFree-front (labels_of r.syntaxes) r.labels r.read.without_duplicates;
      room = r.read.room;
      faulty = record {
        labels = r.labels;
        mid = mid;
        rest = p.token.text ∷ texts_of_tokens p.back;
        front = record {
          says =
              subst (λ (ts : TokenList). Labels ts r.labels (mid ++ p.token.text ∷ texts_of_tokens p.back))
              (sym (ap texts_of_tokens p.in_cell ∙ map-append (λ (t : PlacedToken). t.text) p.front (p.token ∷ p.back)))
              (labels_before (texts_of_tokens p.front) (p.token.text ∷ texts_of_tokens p.back) r.labels mid r.in_front);
          without_duplicates = r.read.without_duplicates;
          begun = λ some. ((begun some).has_room, (begun some).begins);
          phase = phase;
        };
        stuck = stuck;
        offset =
            let long : 2 * length r.labels + length mid ≡ length p.front = omega (
              arith,
              labels_length (texts_of_tokens p.front) r.labels mid r.in_front,
              length-map p.front (λ (t : PlacedToken). t.text),
            ) in
            let is : slice_get p.place.cell.tokens (2 * length r.labels + length mid) ≡ Some p.token =
            ap (λ (ts : List PlacedToken). slice_get ts (2 * length r.labels + length mid)) p.in_cell
            ∙ slice_get-append_middle p.front p.token p.back (2 * length r.labels + length mid) long in
            rw is p.begins;
      };
    }

    -- The cell of a token that fits no statement is faulty at this token.
    CellFaulty-of_wrong_token : (p : TokenPosition columns at) → IsWrong grammar names p c → CellFaulty names columns at c
    CellFaulty-of_wrong_token p (inl (n, m)) =
        let b = cons-get_zero (texts_of_tokens p.back) (codes ":") n.colon in
        CellFaulty-of_token p [] n.read (λ some. absurd (some refl)) (inr refl)
        (inl (refl, p.token.text, b.0, ap (λ (ts : TokenList). p.token.text ∷ ts) b.1, inl (n.none, m)))
    CellFaulty-of_wrong_token p (inr (n, m)) =
        CellFaulty-of_token p n.mid n.read n.begun (inl n.no_label)
        (inr (n.no_label, inl (p.token.text, texts_of_tokens p.back, refl, inl (n.none, m))))

    -- The cell of a label that the thread has already is faulty at this label.
    CellFaulty-of_second_label : c ≡ LabelTwice
        → (p : TokenPosition columns at)
        → IsSecondLabel grammar names p
        → CellFaulty names columns at c
    CellFaulty-of_second_label e p n =
        let b = cons-get_zero (texts_of_tokens p.back) (codes ":") n.colon in
        CellFaulty-of_token p [] n.read (λ some. absurd (some refl)) (inr refl)
        (inl (refl, p.token.text, b.0, ap (λ (ts : TokenList). p.token.text ∷ ts) b.1, inr (e, n.label_is_taken)))

    -- The cell of a statement or a location that is one too many is faulty at its token.
    CellFaulty-of_surplus : c ≡ TooMany
        → (p : TokenPosition columns at)
        → IsSurplus grammar names p ⊎ IsNinth grammar names p
        → CellFaulty names columns at c
    CellFaulty-of_surplus e p (inl n) =
        CellFaulty-of_token p [] n.read (λ some. absurd (some refl)) (inl n.no_label)
        (inr (n.no_label, inl (p.token.text, texts_of_tokens p.back, refl, inr (e, inl (refl, n.begins, n.full)))))
    CellFaulty-of_surplus e p (inr n) =
        CellFaulty-of_token p n.mid n.read n.begun (inl n.no_label)
        (inr (n.no_label, inl (p.token.text, texts_of_tokens p.back, refl, inr (e, inr (n.is_location, n.full, n.new)))))

    -- A cell whose statement is not complete is faulty at its end.
    CellFaulty-of_early_end : c ≡ cause.Form
        → (q : CellPosition columns)
        → EndsEarly grammar names q at
        → CellFaulty names columns at c
    CellFaulty-of_early_end e q n = record {
      place = q;
      threads = n.read.threads;
      syntaxes = n.read.syntaxes;
      before_says = n.read.read.before_says;
      says = n.read.read.says;
      bounded = n.read.read.bounded;
      without_duplicates = IsDuplicateFree-front (labels_of n.read.syntaxes) n.read.labels n.read.read.without_duplicates;
      room = n.read.read.room;
      faulty = record {
        labels = n.read.labels;
        mid = n.mid;
        rest = [];
        front = record {
          says =
              subst (λ (ts : TokenList). Labels (texts_of_tokens q.cell.tokens) n.read.labels ts) (sym (append-nil n.mid))
              n.read.in_front;
          without_duplicates = n.read.read.without_duplicates;
          begun = λ some. (n.begun.has_room, n.begun.begins);
          phase = inl no_label_follows;
        };
        stuck = inr (no_label_follows, inr (refl, n.not_empty, e, n.none));
        offset =
            let long : 2 * length n.read.labels + length n.mid ≡ length q.cell.tokens = omega (
              arith,
              labels_length (texts_of_tokens q.cell.tokens) n.read.labels n.mid n.read.in_front,
              length-map q.cell.tokens (λ (t : PlacedToken). t.text),
            ) in
            let is : slice_get q.cell.tokens (2 * length n.read.labels + length n.mid) ≡ None =
            ap (slice_get q.cell.tokens) long ∙ slice_get-length q.cell.tokens in
            rw is n.ends;
      };
    }
      where
        -- What follows the labels begins with no label.
        no_label_follows : BeginsWithLabel (n.mid ++ []) → ⊥
        no_label_follows at = n.no_label (subst BeginsWithLabel (append-nil n.mid) at)

  -- ---- the cell

  module _ (names : NameTable) (threads : List (List (CellSyntax Syntax))) (syntaxes : List (CellSyntax Syntax))
      (cell : PlacedCell) where
    -- Two faults in a cell, after the same cells above it, are at one place and for one cause.
    Faulty-unique : (at other : ℕ) (c d : CellCause) (above : Cells)
        → AllZip (ParsesCell grammar) above syntaxes
        → Faulty names threads syntaxes cell at c
        → Faulty names threads syntaxes cell other d
        → (at ≡ other) × (c ≡ d)
    Faulty-unique at other c d above says f g = elim (cases_Bool (ltb first_index second_index)) [
      | inl e ↦
          absurd (not-longer-IsStuck grammar _ _ _ _ f.labels f.mid f.rest c f.front f.stuck g.labels g.mid g.rest g.front
          (ltb-true first_index second_index e))
      | inr e ↦ elim (cases_Bool (ltb second_index first_index)) [
        | inl h ↦
            absurd (not-longer-IsStuck grammar _ _ _ _ g.labels g.mid g.rest d g.front g.stuck f.labels f.mid f.rest f.front
            (ltb-true second_index first_index h))
        | inr h ↦
            let low = ltb-false first_index second_index e in
            let high = ltb-false second_index first_index h in
            let same : first_index ≡ second_index = omega (arith, low, high) in (
              place-unique (slice_get cell.tokens second_index) (rw same at f.offset) g.offset,
              IsStuck-unique grammar _ _ _ _ f.labels g.labels f.mid g.mid f.rest g.rest c d labels_are_unreserved f.front g.front
                  f.stuck g.stuck same,
            )
      ]
    ]
      where
        -- The index of the first fault's token.
        first_index : ℕ
        first_index = 2 * length f.labels + length f.mid

        -- The index of the second fault's token.
        second_index : ℕ
        second_index = 2 * length g.labels + length g.mid

        -- All labels of the thread are names that a label or a location may have.
        labels_are_unreserved : (n : Bytes) → Contains (labels_of syntaxes ++ f.labels) n → IsUnreservedName n
        labels_are_unreserved n is =
            All-contains IsUnreservedName _ n
            (All-from_recursion IsUnreservedName _
            (AllByRecursion-append IsUnreservedName (labels_of syntaxes) f.labels (cells_named above syntaxes says)
            (labels_named _ _ f.labels f.front.says))) is

        -- Tokens at one index are at one place.
        place-unique : (o : Option PlacedToken)
            → MatchOption o (cell.end ≡ at) (λ t. t.at ≡ at)
            → MatchOption o (cell.end ≡ other) (λ t. t.at ≡ other)
            → at ≡ other
        place-unique None a b = sym a ∙ b
        place-unique (Some t) a b = sym a ∙ b

    -- The cell has no content for which the thread and the table have room.
    no_syntax-if_cell_faulty : (at : ℕ) (c : CellCause)
        → Faulty names threads syntaxes cell at c
        → (syntax : CellSyntax Syntax)
        → ParsesCell grammar (texts_of_tokens cell.tokens) syntax
        → length (statements (syntaxes ++ syntax ∷ [])) ≤ grammar.language.most
        → IsDuplicateFree (labels_of syntaxes ++ syntax.labels)
        → length (insert_names (table_after grammar names threads syntaxes) (names_in grammar (syntax ∷ []))) ≤ most_locations
        → ⊥
    no_syntax-if_cell_faulty at c f syntax parse few once room =
        not-IsStuck-if_whole_cell grammar _ _ _ _ lawful f.labels f.mid f.rest c f.front f.stuck syntax.labels parse.0 syntax.stmt
        (record {
          says =
              subst (λ (ts : TokenList). Labels (texts_of_tokens cell.tokens) syntax.labels ts) (sym (append-nil parse.0))
              parse.1;
          without_duplicates = once;
          begun = λ some. begins_statement-MaybeStatement syntax.stmt parse.2 few room some;
          phase = inl (λ at.
              no_label-if_statement grammar lawful parse.0 syntax.stmt parse.2 (subst BeginsWithLabel (append-nil parse.0) at));
        }) parse.2
      where
        -- If the whole content of the cell has room, and tokens follow its labels, the thread has room for a statement, and one
        -- that fits begins with these tokens.
        begins_statement-MaybeStatement : (o : Option Syntax)
            → MaybeStatement grammar parse.0 o
            → length (statements (syntaxes ++ record { labels = syntax.labels; stmt = o } ∷ [])) ≤ grammar.language.most
            → length (insert_names (table_after grammar names threads syntaxes) (names_in grammar (cell_without_labels o ∷ [])))
            ≤ most_locations
            → (parse.0 ≡ [] → ⊥)
            → (length (statements syntaxes) ≡ grammar.language.most → ⊥)
            × BeginsFitting grammar (table_after grammar names threads syntaxes) parse.0
        begins_statement-MaybeStatement None h less space some = absurd (some h)
        begins_statement-MaybeStatement (Some s) h less space some = (
          λ full. omega (arith, full, less, count-append syntaxes (record { labels = syntax.labels; stmt = Some s } ∷ [])),
          record {
            rest = [];
            syntax = s;
            says = subst (λ (ts : TokenList). grammar.says ts s) (sym (append-nil parse.0)) h;
            room = space;
          },
        )

  -- ---- what precedes a fault excludes faults before it

  -- The threads before a cell have at most one syntax.
  threads_content-unique : (columns : CellGrid) (s t : List (List (CellSyntax Syntax)))
      → AllZip (Column grammar) columns s
      → AllZip (Column grammar) columns t
      → s ≡ t
  threads_content-unique columns s t = AllZip-unique (Column grammar) (Column-unique grammar lawful) columns s t

  -- Cells have at most one syntax.
  cells_content-unique : (cells : Cells) (s t : List (CellSyntax Syntax))
      → AllZip (ParsesCell grammar) cells s
      → AllZip (ParsesCell grammar) cells t
      → s ≡ t
  cells_content-unique cells s t = AllZip-unique (ParsesCell grammar) (ParsesCell-unique grammar lawful) cells s t

  module _ (names : NameTable) (columns : List (List PlacedCell)) where
    -- The cells of a thread down to that of a fault, and with any cells below, do not parse within the limits.
    no_cells-down_to_faulty : (at : ℕ) (c : CellCause) (v : CellFaulty names columns at c) (more : List PlacedCell)
        (threads : List (List (CellSyntax Syntax))) (syntaxes : List (CellSyntax Syntax))
        → AllZip (Column grammar) (texts_of_grid v.place.before) threads
        → AllZip (ParsesCell grammar) (texts_of_cells (v.place.above ++ v.place.cell ∷ more)) syntaxes
        → length (statements syntaxes) ≤ grammar.language.most
        → IsDuplicateFree (labels_of syntaxes)
        → length (table_after grammar names threads syntaxes) ≤ most_locations
        → ⊥
    no_cells-down_to_faulty at c v more threads syntaxes before says few once room =
        let texts = λ (cell : PlacedCell). texts_of_tokens cell.tokens in
        let cut =
        Cut-AllZip (ParsesCell grammar) (texts_of_cells v.place.above) (texts v.place.cell) (texts_of_cells more) syntaxes
        (subst (λ (cs : Cells). AllZip (ParsesCell grammar) cs syntaxes) (map-append texts v.place.above (v.place.cell ∷ more))
        says) in
        let above = cells_content-unique (texts_of_cells v.place.above) cut.above v.syntaxes cut.above_says v.says in
        let others = threads_content-unique (texts_of_grid v.place.before) threads v.threads before v.before_says in
        let whole : syntaxes ≡ v.syntaxes ++ cut.here ∷ cut.below =
        cut.whole ∙ ap (λ (ss : List (CellSyntax Syntax)). ss ++ cut.here ∷ cut.below) above in
        no_syntax-if_cell_faulty names v.threads v.syntaxes v.place.cell at c v.faulty cut.here cut.says (omega (
          arith,
          few,
          ap (λ (ss : List (CellSyntax Syntax)). length (statements ss)) whole,
          count-append v.syntaxes (cut.here ∷ cut.below),
          count-append (cut.here ∷ []) cut.below,
          count-append v.syntaxes (cut.here ∷ []),
        ))
        (IsDuplicateFree-front (labels_of v.syntaxes ++ cut.here.labels) (labels_of cut.below)
        (subst IsDuplicateFree
        (ap labels_of whole
        ∙ labels_of-append v.syntaxes (cut.here ∷ cut.below)
        ∙ sym (append_assoc (labels_of v.syntaxes) cut.here.labels (labels_of cut.below))) once))
        (within_limits v.threads v.syntaxes cut.here cut.below threads syntaxes others whole room)
      where
        -- The table after some of the threads and cells has room, since that after all has.
        within_limits : (ts : List (List (CellSyntax Syntax))) (ss : List (CellSyntax Syntax)) (s : CellSyntax Syntax)
            (below : List (CellSyntax Syntax)) (us : List (List (CellSyntax Syntax))) (all : List (CellSyntax Syntax))
            → us ≡ ts
            → all ≡ ss ++ s ∷ below
            → length (table_after grammar names us all) ≤ most_locations
            → length (insert_names (table_after grammar names ts ss) (names_in grammar (s ∷ []))) ≤ most_locations
        within_limits ts ss s below us all same whole space =
            let parts : names_of grammar us ++ names_in grammar all
            ≡ (names_of grammar ts ++ names_in grammar ss) ++ (names_in grammar (s ∷ []) ++ names_in grammar below) =
            ap (λ (x : List (List (CellSyntax Syntax))). names_of grammar x ++ names_in grammar all) same
            ∙ ap (λ (x : List (CellSyntax Syntax)). names_of grammar ts ++ names_in grammar x) whole
            ∙ ap (λ (x : NameTable). names_of grammar ts ++ x)
            (names_in-append grammar ss (s ∷ below)
            ∙ ap (λ (x : NameTable). names_in grammar ss ++ x) (names_in-append grammar (s ∷ []) below))
            ∙ sym (append_assoc (names_of grammar ts) (names_in grammar ss)
            (names_in grammar (s ∷ []) ++ names_in grammar below)) in
            let table : table_after grammar names us all
            ≡ insert_names (insert_names (table_after grammar names ts ss) (names_in grammar (s ∷ []))) (names_in grammar below) =
            ap (insert_names names) parts
            ∙ insert_names-append names (names_of grammar ts ++ names_in grammar ss)
            (names_in grammar (s ∷ []) ++ names_in grammar below)
            ∙ insert_names-append (table_after grammar names ts ss) (names_in grammar (s ∷ [])) (names_in grammar below) in
            omega (
              arith,
              space,
              ap length table,
              length_le-insert_names (insert_names (table_after grammar names ts ss) (names_in grammar (s ∷ [])))
                  (names_in grammar below),
            )

  -- ---- jumps

  -- A jump at fault among the columns, and what is read before: all cells of its thread, and the jumps above.
  record JumpFaulty (names : NameTable) (columns : List (List PlacedCell)) (at : ℕ) (c : CellCause) : Type 0 where
    token : TokenPosition columns at
    above : List (CellSyntax Syntax)
    syntax : CellSyntax Syntax
    below : List (CellSyntax Syntax)
    label : IsJumpLabel grammar names token above syntax below
    because : ((c ≡ LabelMissing) × (Contains (labels_of (all_syntaxes above syntax below)) token.token.text → ⊥))
        ⊎ ((c ≡ Backward)
        × Contains (labels_of (all_syntaxes above syntax below)) token.token.text
        × (target_in (all_syntaxes above syntax below) token.token.text ≤ length (statements above)))

  -- The statements of cells, of which one has the statement s, are those above it, s, and those below it.
  statements-middle : (above below : List (CellSyntax Syntax)) (syntax : CellSyntax Syntax) (s : Syntax)
      → syntax.stmt ≡ Some s
      → statements (above ++ syntax ∷ below) ≡ statements above ++ s ∷ statements below
  statements-middle above below syntax s is =
      statements-append above (syntax ∷ below)
      ∙ ap (λ (o : Option Syntax). statements above ++ cons_option o (statements below)) is

  module _ (names : NameTable) (columns : List (List PlacedCell)) where
    -- The jump does not lead forward.
    not-LabelsLeadForward-if_jump_faulty : (at : ℕ) (c : CellCause) (j : JumpFaulty names columns at c)
        → LabelsLeadForward grammar (all_syntaxes j.above j.syntax j.below) (length (statements j.above)) j.label.jump.0
        → ⊥
    not-LabelsLeadForward-if_jump_faulty at c j ahead = go j.because
      where
        -- By why the jump is at fault: its label is missing, or does not lead forward.
        go : ((c ≡ LabelMissing) × (Contains (labels_of (all_syntaxes j.above j.syntax j.below)) j.token.token.text → ⊥))
            ⊎ ((c ≡ Backward)
            × Contains (labels_of (all_syntaxes j.above j.syntax j.below)) j.token.token.text
            × (target_in (all_syntaxes j.above j.syntax j.below) j.token.token.text ≤ length (statements j.above)))
            → ⊥
        go (inl (e, none)) = none (ahead j.token.token.text j.label.jump.2).0
        go (inr (e, there, less)) = omega (arith, less, (ahead j.token.token.text j.label.jump.2).1)

    -- Cells of which one is at fault are those of no thread of a test.
    no_thread-if_cell_faulty : (at : ℕ) (c : CellCause) (v : CellFaulty names columns at c)
        (threads : List (List (CellSyntax Syntax))) (t : List (CellSyntax Syntax))
        → AllZip (Column grammar) (texts_of_grid v.place.before) threads
        → Column grammar (texts_of_cells (v.place.above ++ v.place.cell ∷ v.place.below)) t
        → length (table_after grammar names threads t) ≤ most_locations
        → ⊥
    no_thread-if_cell_faulty at c v threads t before column room =
        no_cells-down_to_faulty names columns at c v v.place.below threads t before column.says column.bounded
        column.without_duplicates room

    -- Cells in which a jump is at fault are those of no thread of a test.
    no_thread-if_jump_faulty : (at : ℕ) (c : CellCause) (j : JumpFaulty names columns at c)
        (threads : List (List (CellSyntax Syntax))) (t : List (CellSyntax Syntax))
        → AllZip (Column grammar) (texts_of_grid j.token.place.before) threads
        → Column grammar (texts_of_cells (j.token.place.above ++ j.token.place.cell ∷ j.token.place.below)) t
        → length (table_after grammar names threads t) ≤ most_locations
        → ⊥
    no_thread-if_jump_faulty at c j threads t before column room =
        let same = cells_content-unique _ t (all_syntaxes j.above j.syntax j.below) column.says j.label.read.says in
        let all = statements-middle j.above j.below j.syntax j.label.jump.0 j.label.jump.1 in
        not-LabelsLeadForward-if_jump_faulty at c j
        (subst (λ (ss : List (CellSyntax Syntax)). LabelsLeadForward grammar ss (length (statements j.above)) j.label.jump.0) same
        (column.forward (length (statements j.above)) j.label.jump.0
        (ap (λ (ss : List (CellSyntax Syntax)). slice_get (statements ss) (length (statements j.above))) same
        ∙ ap (λ (ss : List Syntax). slice_get ss (length (statements j.above))) all
        ∙ slice_get-append_middle (statements j.above) j.label.jump.0 (statements j.below) (length (statements j.above)) refl)))

    -- If the cells of a fault's thread are those of no thread for which the table has room, columns with this thread have no
    -- content for which it has room.
    thread_unread : (place : CellPosition columns)
        → ((threads : List (List (CellSyntax Syntax))) (t : List (CellSyntax Syntax))
        → AllZip (Column grammar) (texts_of_grid place.before) threads
        → Column grammar (texts_of_cells (place.above ++ place.cell ∷ place.below)) t
        → length (table_after grammar names threads t) ≤ most_locations
        → ⊥)
        → (more : List (List PlacedCell)) (threads : List (List (CellSyntax Syntax))) (syntaxes : List (CellSyntax Syntax))
        → AllZip (Column grammar) (texts_of_grid (place.before ++ (place.above ++ place.cell ∷ place.below) ∷ more)) threads
        → length (table_after grammar names threads syntaxes) ≤ most_locations
        → ⊥
    thread_unread place unread more threads syntaxes says room =
        let cut =
        Cut-AllZip (Column grammar) (texts_of_grid place.before) (texts_of_cells (place.above ++ place.cell ∷ place.below))
        (texts_of_grid more) threads
        (subst (λ (cs : CellGrid). AllZip (Column grammar) cs threads)
        (map-append texts_of_cells place.before ((place.above ++ place.cell ∷ place.below) ∷ more)) says) in
        unread cut.above cut.here cut.above_says cut.says (within_limits cut.above cut.here cut.below cut.whole)
      where
        -- If the table after all threads has room for their names, so has that after some of them.
        within_limits : (above : List (List (CellSyntax Syntax))) (here : List (CellSyntax Syntax))
            (below : List (List (CellSyntax Syntax)))
            → threads ≡ above ++ here ∷ below
            → length (table_after grammar names above here) ≤ most_locations
        within_limits above here below whole =
            let rest = names_of grammar below ++ names_in grammar syntaxes in
            let parts : names_of grammar threads ++ names_in grammar syntaxes
            ≡ (names_of grammar above ++ names_in grammar here) ++ rest =
            ap (λ (x : List (List (CellSyntax Syntax))). names_of grammar x ++ names_in grammar syntaxes) whole
            ∙ ap (λ (x : NameTable). x ++ names_in grammar syntaxes) (flat_map-append (names_in grammar) above (here ∷ below))
            ∙ append_assoc (names_of grammar above) (names_in grammar here ++ names_of grammar below) (names_in grammar syntaxes)
            ∙ ap (λ (x : NameTable). names_of grammar above ++ x)
            (append_assoc (names_in grammar here) (names_of grammar below) (names_in grammar syntaxes))
            ∙ sym (append_assoc (names_of grammar above) (names_in grammar here) rest) in
            let table : table_after grammar names threads syntaxes ≡ insert_names (table_after grammar names above here) rest =
            ap (insert_names names) parts ∙ insert_names-append names (names_of grammar above ++ names_in grammar here) rest in
            omega (arith, room, ap length table, length_le-insert_names (table_after grammar names above here) rest)

    -- ---- two faults of one thread

    -- Two faults in cells of one thread are the same, at one place and for one cause.
    CellFaulty-unique : (at other : ℕ) (c d : CellCause) (v : CellFaulty names columns at c)
        (w : CellFaulty names columns other d)
        → v.place.before ≡ w.place.before
        → v.place.above ++ v.place.cell ∷ v.place.below ≡ w.place.above ++ w.place.cell ∷ w.place.below
        → (at ≡ other) × (c ≡ d)
    CellFaulty-unique at other c d v w before thread =
        go (split_order v.place.above w.place.above v.place.cell w.place.cell v.place.below w.place.below thread)
      where
        -- The threads before the second fault's are read as threads of the first.
        columns_before_second : AllZip (Column grammar) (texts_of_grid v.place.before) w.threads
        columns_before_second =
            subst (λ (cs : List (List PlacedCell)). AllZip (Column grammar) (texts_of_grid cs) w.threads) (sym before)
            w.before_says

        -- The threads before the first fault's are read as threads of the second.
        columns_before_first : AllZip (Column grammar) (texts_of_grid w.place.before) v.threads
        columns_before_first =
            subst (λ (cs : List (List PlacedCell)). AllZip (Column grammar) (texts_of_grid cs) v.threads) before v.before_says

        -- By the order of the two cells: they are the same, or one is above the other.
        go : ((v.place.above ≡ w.place.above) × (v.place.cell ≡ w.place.cell) × (v.place.below ≡ w.place.below))
            ⊎ (((more : List PlacedCell) × (w.place.above ≡ v.place.above ++ v.place.cell ∷ more))
            ⊎ ((more : List PlacedCell) × (v.place.above ≡ w.place.above ++ w.place.cell ∷ more)))
            → (at ≡ other) × (c ≡ d)
        go (inl (above, cell, below)) =
            let threads =
            threads_content-unique (texts_of_grid v.place.before) w.threads v.threads columns_before_second v.before_says in
            let syntaxes =
            cells_content-unique (texts_of_cells v.place.above) w.syntaxes v.syntaxes
            (subst (λ (cs : List PlacedCell). AllZip (ParsesCell grammar) (texts_of_cells cs) w.syntaxes) (sym above) w.says)
            v.says in
            Faulty-unique names v.threads v.syntaxes v.place.cell at other c d (texts_of_cells v.place.above) v.says v.faulty
            (subst (λ (k : PlacedCell). Faulty names v.threads v.syntaxes k other d) (sym cell)
            (subst (λ (ss : List (CellSyntax Syntax)). Faulty names v.threads ss w.place.cell other d) syntaxes
            (subst (λ (ts : List (List (CellSyntax Syntax))). Faulty names ts w.syntaxes w.place.cell other d) threads w.faulty)))
        go (inr (inl (more, above))) =
            absurd (no_cells-down_to_faulty names columns at c v more w.threads w.syntaxes columns_before_second
            (subst (λ (cs : List PlacedCell). AllZip (ParsesCell grammar) (texts_of_cells cs) w.syntaxes) above w.says) w.bounded
            w.without_duplicates w.room)
        go (inr (inr (more, above))) =
            absurd (no_cells-down_to_faulty names columns other d w more v.threads v.syntaxes columns_before_first
            (subst (λ (cs : List PlacedCell). AllZip (ParsesCell grammar) (texts_of_cells cs) v.syntaxes) above v.says) v.bounded
            v.without_duplicates v.room)

    -- A fault in a cell excludes faults in jumps of its thread.
    not-cell_and_jump_faulty : (at other : ℕ) (c d : CellCause) (v : CellFaulty names columns at c)
        (j : JumpFaulty names columns other d)
        → v.place.before ≡ j.token.place.before
        → v.place.above ++ v.place.cell ∷ v.place.below ≡ j.token.place.above ++ j.token.place.cell ∷ j.token.place.below
        → ⊥
    not-cell_and_jump_faulty at other c d v j before thread =
        let r = j.label.read in
        no_cells-down_to_faulty names columns at c v v.place.below j.label.threads (all_syntaxes j.above j.syntax j.below)
        (subst (λ (cs : List (List PlacedCell)). AllZip (Column grammar) (texts_of_grid cs) j.label.threads) (sym before)
        r.before_says)
        (subst (λ (cs : List PlacedCell). AllZip (ParsesCell grammar) (texts_of_cells cs) (all_syntaxes j.above j.syntax j.below))
        (sym thread) r.says) r.bounded
        (subst IsDuplicateFree (append-nil (labels_of (all_syntaxes j.above j.syntax j.below))) r.without_duplicates) r.room

    -- A jump at fault is not above another jump at fault of the same thread.
    no_faulty_jump-above : (at other : ℕ) (c d : CellCause) (i : JumpFaulty names columns at c)
        (j : JumpFaulty names columns other d)
        → all_syntaxes i.above i.syntax i.below ≡ all_syntaxes j.above j.syntax j.below
        → (more : List PlacedCell)
        → j.token.place.above ≡ i.token.place.above ++ i.token.place.cell ∷ more
        → ⊥
    no_faulty_jump-above at other c d i j same more above =
        let texts = λ (cell : PlacedCell). texts_of_tokens cell.tokens in
        let cut =
        Cut-AllZip (ParsesCell grammar) (texts_of_cells i.token.place.above) (texts i.token.place.cell) (texts_of_cells more)
        j.above
        (subst (λ (cs : Cells). AllZip (ParsesCell grammar) cs j.above)
        (ap texts_of_cells above ∙ map-append texts i.token.place.above (i.token.place.cell ∷ more)) j.label.above_says) in
        let first =
        cells_content-unique (texts_of_cells i.token.place.above) cut.above i.above cut.above_says i.label.above_says in
        let whole : j.above ≡ i.above ++ cut.here ∷ cut.below =
        cut.whole ∙ ap (λ (ss : List (CellSyntax Syntax)). ss ++ cut.here ∷ cut.below) first in
        let mine =
        Cut-AllZip (ParsesCell grammar) (texts_of_cells i.token.place.above) (texts i.token.place.cell)
        (texts_of_cells i.token.place.below) (all_syntaxes i.above i.syntax i.below)
        (subst (λ (cs : Cells). AllZip (ParsesCell grammar) cs (all_syntaxes i.above i.syntax i.below))
        (map-append texts i.token.place.above (i.token.place.cell ∷ i.token.place.below)) i.label.read.says) in
        let here : cut.here ≡ i.syntax =
        ParsesCell-unique grammar lawful (texts i.token.place.cell) cut.here i.syntax cut.says
        (ParsesCell-same_syntaxes i.above mine.above i.syntax mine.here i.below mine.below
        (cells_content-unique (texts_of_cells i.token.place.above) i.above mine.above i.label.above_says mine.above_says)
        mine.whole (texts i.token.place.cell) mine.says) in
        let is : cut.here.stmt ≡ Some i.label.jump.0 = ap (λ (s : CellSyntax Syntax). s.stmt) here ∙ i.label.jump.1 in
        not-LabelsLeadForward-if_jump_faulty at c i
        (subst (λ (ss : List (CellSyntax Syntax)). LabelsLeadForward grammar ss (length (statements i.above)) i.label.jump.0)
        (sym same)
        (j.label.ahead (length (statements i.above)) i.label.jump.0
        (ap (λ (ss : List (CellSyntax Syntax)). slice_get (statements ss) (length (statements i.above))) whole
        ∙ ap (λ (ss : List Syntax). slice_get ss (length (statements i.above)))
        (statements-middle i.above cut.below cut.here i.label.jump.0 is)
        ∙ slice_get-append_middle (statements i.above) i.label.jump.0 (statements cut.below) (length (statements i.above)) refl)))
      where
        -- If the syntaxes before x and before y are equal, and so are the whole lists, a cell that parses as y parses as x.
        ParsesCell-same_syntaxes : (xs ys : List (CellSyntax Syntax)) (x y : CellSyntax Syntax) (us ws : List (CellSyntax Syntax))
            → xs ≡ ys
            → xs ++ x ∷ us ≡ ys ++ y ∷ ws
            → (ts : TokenList)
            → ParsesCell grammar ts y
            → ParsesCell grammar ts x
        ParsesCell-same_syntaxes xs ys x y us ws same e ts h = elim (split_order xs ys x y us ws e) [
          | inl (a, b, k) ↦ subst (ParsesCell grammar ts) (sym b) h
          | inr (inl (more, a)) ↦ absurd (omega (arith, ap length same, ap length a, length-append xs (x ∷ more)))
          | inr (inr (more, a)) ↦ absurd (omega (arith, ap length same, ap length a, length-append ys (y ∷ more)))
        ]

    -- Two faults in jumps of one thread are the same, at one place and for one cause.
    JumpFaulty-unique : (at other : ℕ) (c d : CellCause) (i : JumpFaulty names columns at c)
        (j : JumpFaulty names columns other d)
        → i.token.place.above ++ i.token.place.cell ∷ i.token.place.below
        ≡ j.token.place.above ++ j.token.place.cell ∷ j.token.place.below
        → (at ≡ other) × (c ≡ d)
    JumpFaulty-unique at other c d i j thread =
        go (split_order i.token.place.above j.token.place.above i.token.place.cell j.token.place.cell i.token.place.below
        j.token.place.below thread)
      where
        -- Both jumps are in one thread, so its cells have one content.
        syntaxes_of_thread_equal : all_syntaxes i.above i.syntax i.below ≡ all_syntaxes j.above j.syntax j.below
        syntaxes_of_thread_equal =
            cells_content-unique _ (all_syntaxes i.above i.syntax i.below) (all_syntaxes j.above j.syntax j.below)
            (subst
            (λ (cs : List PlacedCell). AllZip (ParsesCell grammar) (texts_of_cells cs) (all_syntaxes i.above i.syntax i.below))
            thread i.label.read.says) j.label.read.says

        -- Labels at the end of one cell are one token.
        token_of_jump-unique : i.token.place.cell ≡ j.token.place.cell → i.token.token ≡ j.token.token
        token_of_jump-unique cell =
            snoc-injective i.token.front j.token.front i.token.token j.token.token
            (ap (λ (ts : List PlacedToken). i.token.front ++ i.token.token ∷ ts) (sym i.label.last)
            ∙ sym i.token.in_cell
            ∙ ap (λ (k : PlacedCell). k.tokens) cell
            ∙ j.token.in_cell
            ∙ ap (λ (ts : List PlacedToken). j.token.front ++ j.token.token ∷ ts) j.label.last)

        -- Jumps with one label have one cause.
        cause_of_jump-unique : i.token.token ≡ j.token.token → c ≡ d
        cause_of_jump-unique token = elim i.because [
          | inl (e, none) ↦ elim j.because [
            | inl (f, never) ↦ e ∙ sym f
            | inr (f, there, less) ↦
                absurd (none (subst (λ (w : Bytes). Contains (labels_of (all_syntaxes i.above i.syntax i.below)) w)
                (sym (ap (λ (t : PlacedToken). t.text) token))
                (subst (λ (ss : List (CellSyntax Syntax)). Contains (labels_of ss) j.token.token.text)
                (sym syntaxes_of_thread_equal) there)))
          ]
          | inr (e, there, less) ↦ elim j.because [
            | inl (f, none) ↦
                absurd (none (subst (λ (w : Bytes). Contains (labels_of (all_syntaxes j.above j.syntax j.below)) w)
                (ap (λ (t : PlacedToken). t.text) token)
                (subst (λ (ss : List (CellSyntax Syntax)). Contains (labels_of ss) i.token.token.text) syntaxes_of_thread_equal
                there)))
            | inr (f, again, more) ↦ e ∙ sym f
          ]
        ]

        -- By the order of the two cells: they are the same, or one is above the other.
        go : ((i.token.place.above ≡ j.token.place.above)
            × (i.token.place.cell ≡ j.token.place.cell)
            × (i.token.place.below ≡ j.token.place.below))
            ⊎ (((more : List PlacedCell) × (j.token.place.above ≡ i.token.place.above ++ i.token.place.cell ∷ more))
            ⊎ ((more : List PlacedCell) × (i.token.place.above ≡ j.token.place.above ++ j.token.place.cell ∷ more)))
            → (at ≡ other) × (c ≡ d)
        go (inl (above, cell, below)) =
            let token = token_of_jump-unique cell in
            (sym i.token.begins ∙ ap (λ (t : PlacedToken). t.at) token ∙ j.token.begins, cause_of_jump-unique token)
        go (inr (inl (more, above))) = absurd (no_faulty_jump-above at other c d i j syntaxes_of_thread_equal more above)
        go (inr (inr (more, above))) = absurd (no_faulty_jump-above other at d c j i (sym syntaxes_of_thread_equal) more above)

    -- ---- any two faults

    -- A fault in the columns: in a cell, or in a jump.
    abbrev Fault : ℕ → CellCause → Type 0
    Fault at c = CellFaulty names columns at c ⊎ JumpFaulty names columns at c

    -- The position of the cell of a fault.
    abbrev place_of : (at : ℕ) (c : CellCause) → Fault at c → CellPosition columns
    place_of at c (inl v) = v.place
    place_of at c (inr j) = j.token.place

    -- What a cause claims is such a fault, unless memory ran out.
    Fault-of_cause : (at : ℕ) (c : CellCause) → (c ≡ Memory → ⊥) → CellCauseIsTrue grammar names columns at c → Fault at c
    Fault-of_cause at cause.Form known (inl (p, w)) = inl (CellFaulty-of_wrong_token names columns at cause.Form p w)
    Fault-of_cause at cause.Form known (inr (q, e)) = inl (CellFaulty-of_early_end names columns at cause.Form refl q e)
    Fault-of_cause at cause.Register known (p, w) = inl (CellFaulty-of_wrong_token names columns at cause.Register p w)
    Fault-of_cause at LabelTwice known (p, w) = inl (CellFaulty-of_second_label names columns at LabelTwice refl p w)
    Fault-of_cause at TooMany known (p, w) = inl (CellFaulty-of_surplus names columns at TooMany refl p w)
    Fault-of_cause at LabelMissing known (p, (above, syntax, below, label, none)) =
        inr (record { token = p; above = above; syntax = syntax; below = below; label = label; because = inl (refl, none) })
    Fault-of_cause at Backward known (p, (above, syntax, below, label, there, less)) =
        inr (record {
          token = p;
          above = above;
          syntax = syntax;
          below = below;
          label = label;
          because = inr (refl, there, less);
        })
    Fault-of_cause at Memory known h = absurd (known refl)

    -- What is read before a fault: threads, and cells of its own, with room in the table.
    before_of : (at : ℕ) (c : CellCause) (v : Fault at c)
        → (threads : List (List (CellSyntax Syntax)))
        × (syntaxes : List (CellSyntax Syntax))
        × AllZip (Column grammar) (texts_of_grid (place_of at c v).before) threads
        × (length (table_after grammar names threads syntaxes) ≤ most_locations)
    before_of at c (inl v) = (v.threads, v.syntaxes, v.before_says, v.room)
    before_of at c (inr j) = (j.label.threads, all_syntaxes j.above j.syntax j.below, j.label.read.before_says, j.label.read.room)

    -- The thread of a fault is none that a test could have.
    no_thread-of_fault : (at : ℕ) (c : CellCause) (v : Fault at c) (threads : List (List (CellSyntax Syntax)))
        (t : List (CellSyntax Syntax))
        → AllZip (Column grammar) (texts_of_grid (place_of at c v).before) threads
        → Column grammar (texts_of_cells ((place_of at c v).above ++ (place_of at c v).cell ∷ (place_of at c v).below)) t
        → length (table_after grammar names threads t) ≤ most_locations
        → ⊥
    no_thread-of_fault at c (inl v) = no_thread-if_cell_faulty at c v
    no_thread-of_fault at c (inr j) = no_thread-if_jump_faulty at c j

    -- A fault in a thread excludes faults in the threads after it.
    no_fault-after_faulty_thread : (at other : ℕ) (c d : CellCause) (v : Fault at c) (w : Fault other d)
        (more : List (List PlacedCell))
        → (place_of other d w).before
        ≡ (place_of at c v).before ++ ((place_of at c v).above ++ (place_of at c v).cell ∷ (place_of at c v).below) ∷ more
        → ⊥
    no_fault-after_faulty_thread at other c d v w more e =
        let b = before_of other d w in
        thread_unread (place_of at c v) (no_thread-of_fault at c v) more b.0 b.1
        (subst (λ (cs : List (List PlacedCell)). AllZip (Column grammar) (texts_of_grid cs) b.0) e b.2) b.3

    -- At most one cause and place of a fault is true of the columns.
    pub true_fault-unique : (at other : ℕ) (c d : CellCause)
        → (c ≡ Memory → ⊥)
        → (d ≡ Memory → ⊥)
        → CellCauseIsTrue grammar names columns at c
        → CellCauseIsTrue grammar names columns other d
        → (at ≡ other) × (c ≡ d)
    true_fault-unique at other c d known also h k = go (Fault-of_cause at c known h) (Fault-of_cause other d also k)
      where
        -- Two faults of one thread are the same.
        fault_in_thread-unique : (v : Fault at c) (w : Fault other d)
            → (place_of at c v).before ≡ (place_of other d w).before
            → (place_of at c v).above ++ (place_of at c v).cell ∷ (place_of at c v).below
            ≡ (place_of other d w).above ++ (place_of other d w).cell ∷ (place_of other d w).below
            → (at ≡ other) × (c ≡ d)
        fault_in_thread-unique (inl v) (inl w) before thread = CellFaulty-unique at other c d v w before thread
        fault_in_thread-unique (inl v) (inr j) before thread = absurd (not-cell_and_jump_faulty at other c d v j before thread)
        fault_in_thread-unique (inr i) (inl w) before thread =
            absurd (not-cell_and_jump_faulty other at d c w i (sym before) (sym thread))
        fault_in_thread-unique (inr i) (inr j) before thread = JumpFaulty-unique at other c d i j thread

        -- By whether each of the two faults is in a cell or in a jump.
        go : Fault at c → Fault other d → (at ≡ other) × (c ≡ d)
        go v w =
            elim (split_order (place_of at c v).before (place_of other d w).before
            ((place_of at c v).above ++ (place_of at c v).cell ∷ (place_of at c v).below)
            ((place_of other d w).above ++ (place_of other d w).cell ∷ (place_of other d w).below) (place_of at c v).after
            (place_of other d w).after (sym (place_of at c v).in_columns ∙ (place_of other d w).in_columns)) [
              | inl (before, thread, after) ↦ fault_in_thread-unique v w before thread
              | inr (inl (more, e)) ↦ absurd (no_fault-after_faulty_thread at other c d v w more e)
              | inr (inr (more, e)) ↦ absurd (no_fault-after_faulty_thread other at d c w v more e)
            ]

    -- No fault is true of columns that are the threads of a test.
    pub no_true_fault-if_test : (at : ℕ) (c : CellCause) (threads : List (List (CellSyntax Syntax)))
        → AllZip (Column grammar) (texts_of_grid columns) threads
        → length (insert_names names (names_of grammar threads)) ≤ most_locations
        → (c ≡ Memory → ⊥)
        → CellCauseIsTrue grammar names columns at c
        → ⊥
    no_true_fault-if_test at c threads says few known h =
        let v = Fault-of_cause at c known h in
        thread_unread (place_of at c v) (no_thread-of_fault at c v) (place_of at c v).after threads []
        (subst (λ (cs : List (List PlacedCell)). AllZip (Column grammar) (texts_of_grid cs) threads) (place_of at c v).in_columns
        says)
        (subst (λ (ns : NameTable). length (insert_names names ns) ≤ most_locations) (sym (append-nil (names_of grammar threads)))
        few)
