-- Two faults of one cell are the same, if the same precedes it. The tokens before a fault's place can be
-- continued to a statement, and with the token there they cannot. A step of the law that at most one fault is
-- true (OneFault).
use Rattle.lw_statements.proofs.Common.{◌≡◌, ℕ, ◌<◌, ◌≤◌, ◌+◌, ◌*◌, inl, inr, ◌⊎◌, Option, Some, None, List}
use Rattle.lw_statements.proofs.Common.{[], ◌∷◌, ◌++◌, length, length-append, refl, sym, ap, ◌∙◌, subst}
use Rattle.lw_statements.proofs.Common.{arith, slice_get, codes, Contains, append_assoc, append-nil}
use Rattle.lw_statements.proofs.Common.{CellCause, TooMany, LabelTwice, most_locations, IsDuplicateFree}
use Rattle.lw_statements.proofs.Common.{IsUnreservedName, insert_name, Bytes, NameTable, TokenList, Grammar}
use Rattle.lw_statements.proofs.Common.{IsGrammar, BeginsStatement, CanBegin, IsLocationAfter, MaybeStatement}
use Rattle.lw_statements.proofs.Common.{Labels, BeginsFitting, BeginsWithLabel, IsMeantAsRegister}
use Rattle.lw_statements.proofs.Common.{IsMisfitCause, IsUnknownRegister, insert_name-if_new}
use Rattle.lw_statements.proofs.FrontLabels.{Labels-unique, not-in_both-if_duplicate_free}
use Rattle.lw_statements.proofs.OneReading.{no_label-if_statement as no_label_begins}
use Rattle.lw_base.specs.declared.fault.CellCause.TheVariants as cause

-- ---- lists

-- Of two ways to split a list at an item, the items are the same, or one is before the other.
pub split_order : {X : Type 0} (xs zs : List X) (x z : X) (ys ws : List X)
    → xs ++ x ∷ ys ≡ zs ++ z ∷ ws
    → ((xs ≡ zs) × (x ≡ z) × (ys ≡ ws)) ⊎ (((more : List X) × (zs ≡ xs ++ x ∷ more)) ⊎ ((more : List X) × (xs ≡ zs ++ z ∷ more)))
split_order [] [] x z ys ws e = inl (refl, cc, cc)
split_order [] (w ∷ zs) x z ys ws e = inr (inl (zs, (let same : w ≡ x = cc in ap (λ u. u ∷ zs) same)))
split_order (w ∷ xs) [] x z ys ws e = inr (inr (xs, (let same : w ≡ z = cc in ap (λ u. u ∷ xs) same)))
split_order (w ∷ xs) (v ∷ zs) x z ys ws e =
    let head : w ≡ v = cc in
    let tail : xs ++ x ∷ ys ≡ zs ++ z ∷ ws = cc in
    go head (split_order xs zs x z ys ws tail)
  where
    -- If the first items are equal, the cases of the other items are those of the whole lists.
    go : w ≡ v
        → ((xs ≡ zs) × (x ≡ z) × (ys ≡ ws))
        ⊎ (((more : List _) × (zs ≡ xs ++ x ∷ more)) ⊎ ((more : List _) × (xs ≡ zs ++ z ∷ more)))
        → ((w ∷ xs ≡ v ∷ zs) × (x ≡ z) × (ys ≡ ws))
        ⊎ (((more : List _) × (v ∷ zs ≡ w ∷ xs ++ x ∷ more)) ⊎ ((more : List _) × (w ∷ xs ≡ v ∷ zs ++ z ∷ more)))
    go head (inl (a, b, c)) = inl (cc, b, c)
    go head (inr (inl (more, a))) = inr (inl (more, cc))
    go head (inr (inr (more, a))) = inr (inr (more, cc))

-- If two lists are the same when others follow, and the first is shorter, the second continues it with what follows.
pub longer_front : {X : Type 0} (xs zs : List X) (x : X) (ys ws : List X)
    → xs ++ x ∷ ys ≡ zs ++ ws
    → length xs < length zs
    → (more : List X) × (zs ≡ xs ++ x ∷ more)
longer_front xs [] x ys ws e less = absurd (omega (arith, less))
longer_front [] (z ∷ zs) x ys ws e less = (zs, (let same : z ≡ x = cc in ap (λ u. u ∷ zs) same))
longer_front (w ∷ xs) (z ∷ zs) x ys ws e less =
    let head : w ≡ z = cc in
    let r = longer_front xs zs x ys ws (let tail : xs ++ x ∷ ys ≡ zs ++ ws = cc in tail) (omega (arith, less)) in
    (r.0, (let tail : zs ≡ xs ++ x ∷ r.0 = r.1 in cc))

-- If a list with others appended equals another with others appended, and both lists have the same length, the lists are equal,
-- and so are the others.
pub same_front : {X : Type 0} (xs zs ys ws : List X) → xs ++ ys ≡ zs ++ ws → length xs ≡ length zs → (xs ≡ zs) × (ys ≡ ws)
same_front [] [] ys ws e same = (refl, e)
same_front [] (z ∷ zs) ys ws e same = absurd (omega (arith, same))
same_front (w ∷ xs) [] ys ws e same = absurd (omega (arith, same))
same_front (w ∷ xs) (z ∷ zs) ys ws e same =
    let head : w ≡ z = cc in
    let r = same_front xs zs ys ws (let tail : xs ++ ys ≡ zs ++ ws = cc in tail) (omega (arith, same)) in
    ((let tail : xs ≡ zs = r.0 in cc), r.1)

-- ---- labels

-- Of two ways to read labels at the start of tokens, one continues the other.
labels_meet : (ts m n : TokenList) (ls ks : List Bytes)
    → Labels ts ls m
    → Labels ts ks n
    → ((more : List Bytes) × (ks ≡ ls ++ more) × Labels m more n) ⊎ ((more : List Bytes) × (ls ≡ ks ++ more) × Labels n more m)
labels_meet ts m n [] ks h k = inl (ks, refl, subst (λ (t : TokenList). Labels t ks n) h k)
labels_meet ts m n (l ∷ ls) [] h k = inr (l ∷ ls, refl, subst (λ (t : TokenList). Labels t (l ∷ ls) m) k h)
labels_meet ts m n (l ∷ ls) (j ∷ ks) h k =
    let e : l ∷ codes ":" ∷ h.0 ≡ j ∷ codes ":" ∷ k.0 = sym h.1 ∙ k.1 in
    let same : k.0 ≡ h.0 = cc in
    let first : l ≡ j = cc in
    go first (labels_meet h.0 m n ls ks h.3 (subst (λ (t : TokenList). Labels t ks n) same k.3))
  where
    -- If the first labels are equal, the cases of the other labels are those of all labels.
    go : l ≡ j
        → ((more : List Bytes) × (ks ≡ ls ++ more) × Labels m more n)
        ⊎ ((more : List Bytes) × (ls ≡ ks ++ more) × Labels n more m)
        → ((more : List Bytes) × (j ∷ ks ≡ l ∷ ls ++ more) × Labels m more n)
        ⊎ ((more : List Bytes) × (l ∷ ls ≡ j ∷ ks ++ more) × Labels n more m)
    go first (inl (more, a, b)) = inl (more, cc, b)
    go first (inr (more, a, b)) = inr (more, cc, b)

-- The number of tokens is that of the labels, twice, and of the rest.
pub labels_length : (ts : TokenList) (ls rest : TokenList) → Labels ts ls rest → length ts ≡ 2 * length ls + length rest
labels_length ts [] rest h = omega (arith, ap length h)
labels_length ts (l ∷ ls) rest h = let r = labels_length h.0 ls rest h.3 in omega (arith, ap length h.1, r)

module _ {Syntax Stmt : Type 0} (grammar : Grammar Syntax Stmt) where
  -- A prefix of tokens that begin a statement on a location that fits the table begins it too.
  fitting_prefix : (names : NameTable) (front more : TokenList) (t : Bytes)
      → BeginsFitting grammar names (front ++ t ∷ more)
      → BeginsFitting grammar names (front ++ t ∷ [])
  fitting_prefix names front more t b = record {
    rest = more ++ b.rest;
    syntax = b.syntax;
    says =
        subst (λ (ts : TokenList). grammar.says ts b.syntax)
        (append_assoc front (t ∷ more) b.rest ∙ sym (append_assoc front (t ∷ []) (more ++ b.rest))) b.says;
    room = b.room;
  }

  -- The number of statements above a cell, the labels above it, the table there, and its tokens.
  module _ (count : ℕ) (known : List Bytes) (table : NameTable) (ts : TokenList) where
    -- The thread has room for one more statement.
    abbrev pub HasRoomForStatement : Type 0
    HasRoomForStatement = count ≡ grammar.language.most → ⊥

    -- What is read of the cell: labels and `mid`, which can be continued; `rest` follows.
    pub record IsFront (labels : List Bytes) (mid rest : TokenList) : Type 0 where
      pub says : Labels ts labels (mid ++ rest)
      pub without_duplicates : IsDuplicateFree (known ++ labels)
      pub begun : (mid ≡ [] → ⊥) → HasRoomForStatement × BeginsFitting grammar table mid
      pub phase : (BeginsWithLabel (mid ++ rest) → ⊥) ⊎ (mid ≡ [])

    -- The token in the place of a label is none, or a second one, for this cause.
    abbrev pub IsBadLabel : List Bytes → Bytes → CellCause → Type 0
    IsBadLabel labels t c =
        ((IsUnreservedName t → ⊥) × IsMisfitCause (IsUnknownRegister t) c) ⊎ ((c ≡ LabelTwice) × Contains (known ++ labels) t)

    -- The token after `mid` fits no statement, is one too many, or a ninth location, for this cause.
    abbrev pub IsBadToken : TokenList → Bytes → CellCause → Type 0
    IsBadToken mid t c =
        ((BeginsStatement grammar (mid ++ t ∷ []) → ⊥) × IsMisfitCause (IsMeantAsRegister grammar mid t) c)
        ⊎ ((c ≡ TooMany)
        × (((mid ≡ []) × CanBegin grammar t × (count ≡ grammar.language.most))
        ⊎ (IsLocationAfter grammar mid t × (length table ≡ most_locations) × (Contains table t → ⊥))))

    -- What follows `mid` begins with such a token, or the cell ends too early.
    abbrev pub IsBadRest : TokenList → TokenList → CellCause → Type 0
    IsBadRest mid rest c =
        ((t : Bytes) × (back : TokenList) × (rest ≡ t ∷ back) × IsBadToken mid t c)
        ⊎ ((rest ≡ []) × (mid ≡ [] → ⊥) × (c ≡ cause.Form) × ((s : Syntax) → grammar.says mid s → ⊥))

    -- Why labels and `mid` cannot be continued by what follows, for this cause.
    abbrev pub IsStuck : List Bytes → TokenList → TokenList → CellCause → Type 0
    IsStuck labels mid rest c =
        ((mid ≡ []) × (t : Bytes) × (more : TokenList) × (rest ≡ t ∷ codes ":" ∷ more) × IsBadLabel labels t c)
        ⊎ ((BeginsWithLabel (mid ++ rest) → ⊥) × IsBadRest mid rest c)

    -- The index of the token at fault.
    abbrev pub index_of : List Bytes → TokenList → ℕ
    index_of labels mid = 2 * length labels + length mid

    -- ---- nothing continues past the place of a fault

    -- If t is bad as a label after some labels, no labels that continue these with t are all names without duplicates.
    not-label-if_bad : (labels : List Bytes) (t : Bytes) (c : CellCause)
        → IsBadLabel labels t c
        → (ks : List Bytes)
        → IsUnreservedName t
        → IsDuplicateFree (known ++ (labels ++ t ∷ ks))
        → ⊥
    not-label-if_bad labels t c (inl (none, m)) ks loc once = none loc
    not-label-if_bad labels t c (inr (e, there)) ks loc once =
        not-in_both-if_duplicate_free (known ++ labels) (t ∷ ks) t
        (subst IsDuplicateFree (sym (append_assoc known labels (t ∷ ks))) once) there (0, omega arith, refl)

    -- If t is bad after `mid`, and the thread has room for a statement, no statement that fits begins with `mid` and t.
    not-statement-if_bad_token : (mid : TokenList) (t : Bytes) (c : CellCause)
        → IsBadToken mid t c
        → HasRoomForStatement
        → BeginsFitting grammar table (mid ++ t ∷ [])
        → ⊥
    not-statement-if_bad_token mid t c (inl (none, m)) free b = none (b.rest, b.syntax, b.says)
    not-statement-if_bad_token mid t c (inr (e, inl (first, can, full))) free b = free full
    not-statement-if_bad_token mid t c (inr (e, inr (loc, full, new))) free b =
        let named =
        loc.only b.rest b.syntax
        (subst (λ (us : TokenList). grammar.says us b.syntax) (append_assoc mid (t ∷ []) b.rest) b.says) in
        let room : length (insert_name table t) ≤ most_locations = rw named at b.room in
        omega (arith, full, room, ap length (insert_name-if_new table t new), length-append table (t ∷ []))

    -- A token with a `:` after it is a label.
    begins_with_label : (rest more : TokenList) (t : Bytes) → rest ≡ t ∷ codes ":" ∷ more → BeginsWithLabel rest
    begins_with_label rest more t is = ap (λ (us : TokenList). slice_get us 1) is

    -- If a bad label follows some labels, no front of the cell is longer than these labels.
    no_front-past_bad_label : (labels : List Bytes) (rest more : TokenList) (t : Bytes) (c : CellCause)
        → Labels ts labels rest
        → rest ≡ t ∷ codes ":" ∷ more
        → IsBadLabel labels t c
        → (ks : List Bytes) (mid after : TokenList)
        → IsFront ks mid after
        → 2 * length labels < index_of ks mid
        → ⊥
    no_front-past_bad_label labels rest more t c says is bad ks mid after f less =
        go (labels_meet ts rest (mid ++ after) labels ks says f.says)
      where
        -- Fronts that end at different places do not have equally many labels, followed by the same tokens.
        label_counts_differ : length labels ≡ length ks → rest ≡ mid ++ after → ⊥
        label_counts_differ long same = elim f.phase [
          | inl stops ↦ stops (subst BeginsWithLabel same (begins_with_label rest more t is))
          | inr none ↦ omega (arith, less, long, ap length none)
        ]

        -- By which of the two readings of labels continues the other.
        go : ((ms : List Bytes) × (ks ≡ labels ++ ms) × Labels rest ms (mid ++ after))
            ⊎ ((ms : List Bytes) × (labels ≡ ks ++ ms) × Labels (mid ++ after) ms rest)
            → ⊥
        go (inl ([], same, h)) = label_counts_differ (omega (arith, ap length same, length-append labels [])) h
        go (inl (m ∷ ms, same, h)) =
            let e : t ∷ codes ":" ∷ more ≡ m ∷ codes ":" ∷ h.0 = sym is ∙ h.1 in
            let one : m ≡ t = cc in
            not-label-if_bad labels t c bad ms (subst IsUnreservedName one h.2)
            (subst (λ (l : Bytes). IsDuplicateFree (known ++ (labels ++ l ∷ ms))) one
            (subst (λ (ls : List Bytes). IsDuplicateFree (known ++ ls)) same f.without_duplicates))
        go (inr ([], same, h)) = label_counts_differ (omega (arith, ap length same, length-append ks [])) (sym h)
        go (inr (m ∷ ms, same, h)) = elim f.phase [
          | inl stops ↦ stops (begins_with_label (mid ++ after) h.0 m h.1)
          | inr none ↦ omega (arith, less, ap length none, ap length same, length-append ks (m ∷ ms))
        ]

    -- If a bad token follows labels and `mid`, no front of the cell is longer than these.
    no_front-past_bad_token : (labels : List Bytes) (mid rest back : TokenList) (t : Bytes) (c : CellCause)
        → Labels ts labels (mid ++ rest)
        → (BeginsWithLabel (mid ++ rest) → ⊥)
        → rest ≡ t ∷ back
        → IsBadToken mid t c
        → (ks : List Bytes) (far after : TokenList)
        → IsFront ks far after
        → index_of labels mid < index_of ks far
        → ⊥
    no_front-past_bad_token labels mid rest back t c says stops is bad ks far after f less =
        go (labels_meet ts (mid ++ rest) (far ++ after) labels ks says f.says)
      where
        -- Fronts that end at different places do not have equally many labels, followed by the same tokens.
        label_counts_differ : length labels ≡ length ks → mid ++ rest ≡ far ++ after → ⊥
        label_counts_differ long same =
            let m =
            longer_front mid far t back after (ap (λ (us : TokenList). mid ++ us) (sym is) ∙ same) (omega (arith, less, long)) in
            let b = f.begun (λ none. omega (arith, ap length none, ap length m.1, length-append mid (t ∷ m.0))) in
            not-statement-if_bad_token mid t c bad b.0
            (fitting_prefix table mid m.0 t (subst (BeginsFitting grammar table) m.1 b.1))

        -- By which of the two readings of labels continues the other.
        go : ((ms : List Bytes) × (ks ≡ labels ++ ms) × Labels (mid ++ rest) ms (far ++ after))
            ⊎ ((ms : List Bytes) × (labels ≡ ks ++ ms) × Labels (far ++ after) ms (mid ++ rest))
            → ⊥
        go (inl ([], same, h)) = label_counts_differ (omega (arith, ap length same, length-append labels [])) h
        go (inl (m ∷ ms, same, h)) = stops (begins_with_label (mid ++ rest) h.0 m h.1)
        go (inr ([], same, h)) = label_counts_differ (omega (arith, ap length same, length-append ks [])) (sym h)
        go (inr (m ∷ ms, same, h)) = elim f.phase [
          | inl halts ↦ halts (begins_with_label (far ++ after) h.0 m h.1)
          | inr none ↦ omega (arith, less, ap length none, ap length same, length-append ks (m ∷ ms))
        ]

    -- The index of a front is at most that of the cell's end.
    index_within : (ks : List Bytes) (far after : TokenList) → IsFront ks far after → index_of ks far ≤ length ts
    index_within ks far after f = omega (arith, labels_length ts ks (far ++ after) f.says, length-append far after)

    -- No front is longer than one that is stuck.
    pub not-longer-IsStuck : (labels : List Bytes) (mid rest : TokenList) (c : CellCause)
        → IsFront labels mid rest
        → IsStuck labels mid rest c
        → (ks : List Bytes) (far after : TokenList)
        → IsFront ks far after
        → index_of labels mid < index_of ks far
        → ⊥
    not-longer-IsStuck labels mid rest c g (inl (none, t, more, is, bad)) ks far after f less =
        no_front-past_bad_label labels rest more t c (subst (λ (us : TokenList). Labels ts labels (us ++ rest)) none g.says) is
        bad ks far after f (omega (arith, less, ap length none))
    not-longer-IsStuck labels mid rest c g (inr (stops, inl (t, back, is, bad))) ks far after f less =
        no_front-past_bad_token labels mid rest back t c g.says stops is bad ks far after f less
    not-longer-IsStuck labels mid rest c g (inr (stops, inr (is, some, e, none))) ks far after f less = omega (
      arith,
      less,
      index_within ks far after f,
      labels_length ts labels (mid ++ rest) g.says,
      length-append mid rest,
      ap length is,
    )

    -- ---- at one place there is one cause

    -- Where a label is due and where none is are different places.
    not-label_index_eq_rest_index : (labels : List Bytes) (rest more : TokenList) (t : Bytes)
        → Labels ts labels rest
        → rest ≡ t ∷ codes ":" ∷ more
        → (ks : List Bytes) (far after : TokenList)
        → Labels ts ks (far ++ after)
        → (BeginsWithLabel (far ++ after) → ⊥)
        → 2 * length labels ≡ index_of ks far
        → ⊥
    not-label_index_eq_rest_index labels rest more t says is ks far after h stops same =
        go (labels_meet ts rest (far ++ after) labels ks says h)
      where
        -- By which of the two readings of labels continues the other.
        go : ((ms : List Bytes) × (ks ≡ labels ++ ms) × Labels rest ms (far ++ after))
            ⊎ ((ms : List Bytes) × (labels ≡ ks ++ ms) × Labels (far ++ after) ms rest)
            → ⊥
        go (inl ([], e, k)) = stops (subst BeginsWithLabel k (begins_with_label rest more t is))
        go (inl (m ∷ ms, e, k)) = omega (arith, same, ap length e, length-append labels (m ∷ ms))
        go (inr ([], e, k)) = stops (subst BeginsWithLabel (sym k) (begins_with_label rest more t is))
        go (inr (m ∷ ms, e, k)) = stops (begins_with_label (far ++ after) k.0 m k.1)

    -- Readings with the same number of labels have the same labels, and leave the same tokens.
    Labels-unique_length : (labels ks : List Bytes) (rest after : TokenList)
        → Labels ts labels rest
        → Labels ts ks after
        → length labels ≡ length ks
        → (labels ≡ ks) × (rest ≡ after)
    Labels-unique_length labels ks rest after h k same = go (labels_meet ts rest after labels ks h k)
      where
        -- By which of the two readings of labels continues the other.
        go : ((ms : List Bytes) × (ks ≡ labels ++ ms) × Labels rest ms after)
            ⊎ ((ms : List Bytes) × (labels ≡ ks ++ ms) × Labels after ms rest)
            → (labels ≡ ks) × (rest ≡ after)
        go (inl ([], e, k)) = (sym (e ∙ append-nil labels), k)
        go (inl (m ∷ ms, e, k)) = absurd (omega (arith, same, ap length e, length-append labels (m ∷ ms)))
        go (inr ([], e, k)) = (e ∙ append-nil ks, sym k)
        go (inr (m ∷ ms, e, k)) = absurd (omega (arith, same, ap length e, length-append ks (m ∷ ms)))

    -- A misfit has one cause.
    IsMisfitCause-unique_cause : (IsMeant : Type 0) (c d : CellCause) → IsMisfitCause IsMeant c → IsMisfitCause IsMeant d → c ≡ d
    IsMisfitCause-unique_cause IsMeant cause.Form cause.Form m n = refl
    IsMisfitCause-unique_cause IsMeant cause.Form cause.Register m n = absurd (m n)
    IsMisfitCause-unique_cause IsMeant cause.Register cause.Form m n = absurd (n m)
    IsMisfitCause-unique_cause IsMeant cause.Register cause.Register m n = refl
    IsMisfitCause-unique_cause IsMeant cause.Form d m n = absurd n
    IsMisfitCause-unique_cause IsMeant cause.Register d m n = absurd n
    IsMisfitCause-unique_cause IsMeant c d m n = absurd m

    -- A bad token has one cause.
    IsBadToken-unique : (mid : TokenList) (t : Bytes) (c d : CellCause) → IsBadToken mid t c → IsBadToken mid t d → c ≡ d
    IsBadToken-unique mid t c d (inl (none, m)) (inl (never, n)) = IsMisfitCause-unique_cause _ c d m n
    IsBadToken-unique mid t c d (inl (none, m)) (inr (e, inl (first, can, full))) =
        absurd (none (subst (λ (us : TokenList). BeginsStatement grammar (us ++ t ∷ [])) (sym first) can))
    IsBadToken-unique mid t c d (inl (none, m)) (inr (e, inr (loc, full, new))) = absurd (none loc.begins)
    IsBadToken-unique mid t c d (inr (e, inl (first, can, full))) (inl (none, m)) =
        absurd (none (subst (λ (us : TokenList). BeginsStatement grammar (us ++ t ∷ [])) (sym first) can))
    IsBadToken-unique mid t c d (inr (e, inr (loc, full, new))) (inl (none, m)) = absurd (none loc.begins)
    IsBadToken-unique mid t c d (inr (e, g)) (inr (f, h)) = e ∙ sym f

    -- A bad rest has one cause.
    IsBadRest-unique : (mid rest : TokenList) (c d : CellCause) → IsBadRest mid rest c → IsBadRest mid rest d → c ≡ d
    IsBadRest-unique mid rest c d (inl (t, back, is, bad)) (inl (u, others, be, worse)) =
        let e : t ∷ back ≡ u ∷ others = sym is ∙ be in
        let same : u ≡ t = cc in
        IsBadToken-unique mid t c d bad (subst (λ (w : Bytes). IsBadToken mid w d) same worse)
    IsBadRest-unique mid rest c d (inl (t, back, is, bad)) (inr (none, some, e, never)) =
        absurd (let no : t ∷ back ≡ [] = sym is ∙ none in cc)
    IsBadRest-unique mid rest c d (inr (none, some, e, never)) (inl (t, back, is, bad)) =
        absurd (let no : t ∷ back ≡ [] = sym is ∙ none in cc)
    IsBadRest-unique mid rest c d (inr (none, some, e, never)) (inr (nothing, other, f, always)) = e ∙ sym f

    -- If the labels before it are locations' names, a bad label has one cause: it is no name, or a label already.
    IsBadLabel-unique : (labels : List Bytes) (t : Bytes) (c d : CellCause)
        → ((n : Bytes) → Contains (known ++ labels) n → IsUnreservedName n)
        → IsBadLabel labels t c
        → IsBadLabel labels t d
        → c ≡ d
    IsBadLabel-unique labels t c d named (inl (none, m)) (inl (never, n)) = IsMisfitCause-unique_cause _ c d m n
    IsBadLabel-unique labels t c d named (inl (none, m)) (inr (e, there)) = absurd (none (named t there))
    IsBadLabel-unique labels t c d named (inr (e, there)) (inl (none, m)) = absurd (none (named t there))
    IsBadLabel-unique labels t c d named (inr (e, there)) (inr (f, again)) = e ∙ sym f

    -- If the labels before them are locations' names, two fronts of one length that are stuck are stuck for one cause.
    pub IsStuck-unique : (labels ks : List Bytes) (mid far rest after : TokenList) (c d : CellCause)
        → ((n : Bytes) → Contains (known ++ labels) n → IsUnreservedName n)
        → IsFront labels mid rest
        → IsFront ks far after
        → IsStuck labels mid rest c
        → IsStuck ks far after d
        → index_of labels mid ≡ index_of ks far
        → c ≡ d
    IsStuck-unique labels ks mid far rest after c d named g f (inl (none, t, more, is, bad)) (inl (nothing, u, others, be, worse)) same =
        let here = subst (λ (us : TokenList). Labels ts labels (us ++ rest)) none g.says in
        let there = subst (λ (us : TokenList). Labels ts ks (us ++ after)) nothing f.says in
        let one = Labels-unique_length labels ks rest after here there (omega (arith, same, ap length none, ap length nothing)) in
        let e : t ∷ codes ":" ∷ more ≡ u ∷ codes ":" ∷ others = sym is ∙ one.1 ∙ be in
        let token : u ≡ t = cc in
        IsBadLabel-unique labels t c d named bad
        (subst (λ (w : Bytes). IsBadLabel labels w d) token (subst (λ (ls : List Bytes). IsBadLabel ls u d) (sym one.0) worse))
    IsStuck-unique labels ks mid far rest after c d named g f (inl (none, t, more, is, bad)) (inr (stops, worse)) same =
        let here = subst (λ (us : TokenList). Labels ts labels (us ++ rest)) none g.says in
        absurd (not-label_index_eq_rest_index labels rest more t here is ks far after f.says stops
        (omega (arith, same, ap length none)))
    IsStuck-unique labels ks mid far rest after c d named g f (inr (stops, worse)) (inl (none, t, more, is, bad)) same =
        let here = subst (λ (us : TokenList). Labels ts ks (us ++ after)) none f.says in
        absurd (not-label_index_eq_rest_index ks after more t here is labels mid rest g.says stops
        (omega (arith, same, ap length none)))
    IsStuck-unique labels ks mid far rest after c d named g f (inr (stops, bad)) (inr (halts, worse)) same =
        let one = Labels-unique ts (mid ++ rest) (far ++ after) labels ks g.says f.says stops halts in
        let two = same_front mid far rest after one.1 (omega (arith, same, ap length one.0)) in
        IsBadRest-unique mid rest c d bad
        (subst (λ (us : TokenList). IsBadRest mid us d) (sym two.1)
        (subst (λ (us : TokenList). IsBadRest us after d) (sym two.0) worse))

    -- ---- a cell with a fault has no content that fits

    -- If some front of a cell is stuck, no labels with a statement or nothing after them are the whole cell.
    pub not-IsStuck-if_whole_cell : IsGrammar grammar
        → (labels : List Bytes) (mid rest : TokenList) (c : CellCause)
        → IsFront labels mid rest
        → IsStuck labels mid rest c
        → (ks : List Bytes) (far : TokenList) (o : Option Syntax)
        → IsFront ks far []
        → MaybeStatement grammar far o
        → ⊥
    not-IsStuck-if_whole_cell lawful labels mid rest c g (inl (none, t, more, is, bad)) ks far o f says =
        not-longer-IsStuck labels mid rest c g (inl (none, t, more, is, bad)) ks far [] f (omega (
          arith,
          labels_length ts labels (mid ++ rest) g.says,
          length-append mid rest,
          ap length is,
          labels_length ts ks (far ++ []) f.says,
          length-append far [],
        ))
    not-IsStuck-if_whole_cell lawful labels mid rest c g (inr (stops, inl (t, back, is, bad))) ks far o f says =
        not-longer-IsStuck labels mid rest c g (inr (stops, inl (t, back, is, bad))) ks far [] f (omega (
          arith,
          labels_length ts labels (mid ++ rest) g.says,
          length-append mid rest,
          ap length is,
          labels_length ts ks (far ++ []) f.says,
          length-append far [],
        ))
    not-IsStuck-if_whole_cell lawful labels mid rest c g (inr (stops, inr (is, some, e, none))) ks far o f says =
        let halts = no_label_begins grammar lawful far o says in
        let one =
        Labels-unique ts (mid ++ rest) (far ++ []) labels ks g.says f.says stops
        (λ at. halts (subst BeginsWithLabel (append-nil far) at)) in
        let same : mid ≡ far = sym (append-nil mid) ∙ ap (λ (us : TokenList). mid ++ us) (sym is) ∙ one.1 ∙ append-nil far in
        go o (subst (λ (us : TokenList). MaybeStatement grammar us o) (sym same) says)
      where
        -- By what the cell has after its labels: a statement, or nothing.
        go : (p : Option Syntax) → MaybeStatement grammar mid p → ⊥
        go None h = some h
        go (Some s) h = none s h
