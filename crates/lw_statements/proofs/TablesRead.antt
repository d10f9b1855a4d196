-- Reading in sequence while the table of names grows: one step, and uniqueness. Cells in a thread and threads
-- in a test are both read so.
use Rattle.lw_statements.proofs.Common.{◌≡◌, ◌≤◌, true, List, [], ◌∷◌, ◌++◌, length, map, refl, sym, ap, ◌∙◌}
use Rattle.lw_statements.proofs.Common.{subst, arith, AllZip, AllByRecursion, map-append, contains_name}
use Rattle.lw_statements.proofs.Common.{insert_name, insert_names, Bytes, NameTable, All-append_inv}
use Rattle.lw_statements.proofs.Common.{contains_name-of_inserted, contains_name-insert_names}
use Rattle.lw_statements.proofs.Common.{insert_names-append, length_le-insert_names, ReadWithTable}
use Rattle.lw_statements.proofs.api.Zips.{Cut, AllZip-unique, AllZip-snoc}

-- All names are in the table.
abbrev pub AreIn : NameTable → List Bytes → Type 0
AreIn names ns = AllByRecursion (λ n. contains_name names n ≡ true) ns

-- Inserted names are in the table.
pub AreIn-insert_names : (names ns : NameTable) → AreIn (insert_names names ns) ns
AreIn-insert_names names [] = tt
AreIn-insert_names names (n ∷ ns) = (
  contains_name-insert_names (insert_name names n) ns n (contains_name-of_inserted names n),
  AreIn-insert_names (insert_name names n) ns,
)

-- Things with names, and a function of a table and a thing whose value is unchanged as the table grows.
module _ {X D : Type 0} (names_by : List X → List Bytes) (make : NameTable → X → D)
    (split : (xs ys : List X) → names_by (xs ++ ys) ≡ names_by xs ++ names_by ys)
    (stays : (names ns : NameTable) (x : X)
    → AreIn names (names_by (x ∷ []))
    → make (insert_names names ns) x ≡ make names x) where
  -- The values for things whose names are in the table are unchanged when it grows.
  pub make-insert_names : (names ns : NameTable) (xs : List X)
      → AreIn names (names_by xs)
      → map (make (insert_names names ns)) xs ≡ map (make names) xs
  make-insert_names names ns [] all = refl
  make-insert_names names ns (x ∷ xs) all =
      let parts = All-append_inv _ _ (names_by xs) (subst (AreIn names) (split (x ∷ []) xs) all) in
      rw (stays names ns x parts.0, make-insert_names names ns xs parts.1) refl

  -- What was read, and what follows.
  module _ {C : Type 0} (Says : C → X → Type 0) (front : List C) (before mid : NameTable) (ds : List D)
      (read : ReadWithTable (AllZip Says front) names_by (λ names. map (make names)) before ds mid) (c : C) where
    -- Reading the next thing adds it to what was read, and its names to the table.
    pub columns_read-push : (x : X) (d : D) (after : NameTable)
        → Says c x
        → after ≡ insert_names mid (names_by (x ∷ []))
        → d ≡ make after x
        → AllZip Says (front ++ c ∷ []) (read.syntax ++ x ∷ [])
        × (after ≡ insert_names before (names_by (read.syntax ++ x ∷ [])))
        × (ds ++ d ∷ [] ≡ map (make after) (read.syntax ++ x ∷ []))
    columns_read-push x d after says grown is =
        let old : map (make after) read.syntax ≡ ds =
        ap (λ ns. map (make ns) read.syntax) grown
        ∙ make-insert_names mid (names_by (x ∷ [])) read.syntax
        (rw (← read.names) at (AreIn-insert_names before (names_by read.syntax)))
        ∙ sym read.made in
        let both = map-append (make after) read.syntax (x ∷ []) in
        let names = split read.syntax (x ∷ []) in
        let table = insert_names-append before (names_by read.syntax) (names_by (x ∷ [])) in
        (AllZip-snoc Says front read.syntax c x read.says says, cc, cc)

    -- A parse of the whole starts with what was read, and inserts further names.
    module _ (one : (w : C) (x y : X) → Says w x → Says w y → x ≡ y) (rest : List C) (t : List X)
        (cut : Cut Says front c rest t) where
      -- What was read before is what precedes it in the other reading.
      pub syntaxes_above_read : cut.above ≡ read.syntax
      syntaxes_above_read = AllZip-unique Says one front cut.above read.syntax cut.above_says read.says

      -- The table after this thing has at most as many names as that after all things of the other reading.
      pub room_for_read_names : length (insert_names mid (names_by (cut.here ∷ []))) ≤ length (insert_names before (names_by t))
      room_for_read_names =
          let names = split cut.above (cut.here ∷ cut.below) in
          let more = split (cut.here ∷ []) cut.below in
          let table = insert_names-append before (names_by read.syntax) (names_by (cut.here ∷ cut.below)) in
          let next = insert_names-append mid (names_by (cut.here ∷ [])) (names_by cut.below) in
          let whole : insert_names before (names_by t)
          ≡ insert_names (insert_names mid (names_by (cut.here ∷ []))) (names_by cut.below) =
          let same = syntaxes_above_read in cc in
          omega (
            arith,
            ap length whole,
            length_le-insert_names (insert_names mid (names_by (cut.here ∷ []))) (names_by cut.below),
          )
