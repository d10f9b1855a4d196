-- Parses of lists are unique, if those of their elements are: lists with separators, lists up to a token,
-- lists that end with a closing token. All lists of the grammar are of these kinds. Then the invariants of
-- the loops that read such lists.
use Rattle.lw_text.proofs.Common.{◌≡◌, ◌⊎◌, inl, inr, Bool, true, false, List, [], ◌∷◌, ◌++◌, refl, sym, ap}
use Rattle.lw_text.proofs.Common.{◌∙◌, subst, append_assoc, ParsesNothing, ParsesMany, ParsesSepBy}
use Rattle.lw_text.proofs.Common.{ParsesManyTill, ParsesSepEndBy, IsSuffix, ◌<◌, arith, length}

-- The parse by P of a list's start is unique: one x, and one rest.
abbrev pub IsDeterministic : {T X : Type 0} → (List T → X → List T → Type 0) → Type 0
IsDeterministic {T} {X} P = (ts : List T) (x y : X) (r s : List T) → P ts x r → P ts y s → (x ≡ y) × (r ≡ s)

-- A suffix of a suffix is a suffix.
pub IsSuffix-join : {X : Type 0} {a b c : List X} → IsSuffix a b → IsSuffix b c → IsSuffix a c
IsSuffix-join {c = c} p q = (p.0 ++ q.0, p.1 ∙ ap (λ x. p.0 ++ x) q.1 ∙ sym (append_assoc p.0 q.0 c))

-- The tail of a list is unique.
pub tail-unique : {X : Type 0} {ts a b : List X} (x : X) → ts ≡ x ∷ a → ts ≡ x ∷ b → a ≡ b
tail-unique x e f = cc

-- The tail of a shorter list is shorter.
pub tail-shorter : {X : Type 0} (ts here next : List X) (x : X)
    → length here < length ts
    → here ≡ x ∷ next
    → length next < length ts
tail-shorter ts here next x shorter e = omega (arith, shorter, ap length e)

-- If x follows the elements xs, they parse as `xs ++ [x]`.
pub ParsesMany-push : {T X : Type 0} (P : List T → X → List T → Type 0) (xs : List X) (ts here next : List T) (x : X)
    → ParsesMany P ts xs here
    → P here x next
    → ParsesMany P ts (xs ++ x ∷ []) next
ParsesMany-push P [] ts here next x b p = (next, subst (λ l. P l x next) (sym b) p, refl)
ParsesMany-push P (y ∷ xs) ts here next x b p = (b.0, b.1, ParsesMany-push P xs b.0 here next x b.2 p)

-- If a whole W is a whole W again after one element, it is one after all elements xs at its start.
pub ParsesMany-peel : {T X : Type 0} {P : List T → X → List T → Type 0} {W : List T → List X → Type 0}
    → ((ts mid : List T) (x : X) (ys : List X) → P ts x mid → W ts ys → (more : List X) × (ys ≡ x ∷ more) × W mid more)
    → (xs ys : List X) (ts here : List T)
    → ParsesMany P ts xs here
    → W ts ys
    → (more : List X) × (ys ≡ xs ++ more) × W here more
ParsesMany-peel {W = W} step [] ys ts here b w = (ys, refl, subst (λ l. W l ys) b w)
ParsesMany-peel {P = P} {W = W} step (x ∷ xs) ys ts here b w =
    let k = step ts b.0 x ys b.1 w in
    let h = ParsesMany-peel {P = P} {W = W} step xs k.0 b.0 here b.2 k.2 in
    (h.0, k.1 ∙ ap (λ l. x ∷ l) h.1, h.2)

-- ---- with separators

module _ {T X : Type 0} (P : List T → X → List T → Type 0) (sep close : T) where
  -- These elements have been read, each followed by a separator, and `rest` remains, where another element must follow.
  abbrev pub AreReadSepBy : List T → List X → List T → Type 0
  AreReadSepBy ts xs rest = ParsesMany (λ ts x mid. P ts x (sep ∷ mid)) ts xs rest

  -- If a last element and the closing token follow, the list is complete.
  pub ParsesSepBy-close : (xs : List X) (ts here rest : List T) (x : X)
      → AreReadSepBy ts xs here
      → P here x (close ∷ rest)
      → ParsesSepBy P sep close ts (xs ++ x ∷ []) rest
  ParsesSepBy-close [] ts here rest x b p = subst (λ l. P l x (close ∷ rest)) (sym b) p
  ParsesSepBy-close (y ∷ []) ts here rest x b p = (b.0, b.1, subst (λ l. P l x (close ∷ rest)) (sym b.2) p)
  ParsesSepBy-close (y ∷ z ∷ xs) ts here rest x b p = (b.0, b.1, ParsesSepBy-close (z ∷ xs) b.0 here rest x b.2 p)

  -- A separator or the closing token: what follows an element.
  abbrev pub IsListPunctuation : T → Type 0
  IsListPunctuation t = (t ≡ sep) ⊎ (t ≡ close)

  -- A list with separators begins with an element, and a separator or the closing token follows it.
  pub ParsesSepBy-front : (xs : List X) (ts rest : List T)
      → ParsesSepBy P sep close ts xs rest
      → (x : X) × (m : T) × (l : List T) × IsListPunctuation m × P ts x (m ∷ l)
  ParsesSepBy-front [] ts rest s = absurd s
  ParsesSepBy-front (x ∷ []) ts rest s = (x, close, rest, inr refl, s)
  ParsesSepBy-front (x ∷ y ∷ xs) ts rest s = (x, sep, s.0, inl refl, s.1)

  -- The parse of an element and of the separator or the closing token after it is unique.
  abbrev pub IsExact : Type 0
  IsExact =
      (ts : List T) (x y : X) (a b : T) (r s : List T)
      → IsListPunctuation a
      → IsListPunctuation b
      → P ts x (a ∷ r)
      → P ts y (b ∷ s)
      → (x ≡ y) × (a ≡ b) × (r ≡ s)

  module _ (exact : IsExact) (apart : sep ≡ close → ⊥) where
    -- If x and a separator are next, a list is x, followed by the elements of the list after the separator.
    ParsesSepBy-tail : (rest ts mid : List T) (x : X) (ys : List X)
        → P ts x (sep ∷ mid)
        → ParsesSepBy P sep close ts ys rest
        → (more : List X) × (ys ≡ x ∷ more) × ParsesSepBy P sep close mid more rest
    ParsesSepBy-tail rest ts mid x [] p s = absurd s
    ParsesSepBy-tail rest ts mid x (y ∷ []) p s = absurd (apart (exact ts x y sep close mid rest (inl refl) (inr refl) p s).1)
    ParsesSepBy-tail rest ts mid x (y ∷ v ∷ ys) p s =
        let e = exact ts x y sep sep mid s.0 (inl refl) (inl refl) p s.1 in
        (v ∷ ys, cc, subst (λ l. ParsesSepBy P sep close l (v ∷ ys) rest) (sym e.2) s.2)

    -- The parse of a list with separators is unique.
    pub ParsesSepBy-unique : (xs ys : List X) (ts r s : List T)
        → ParsesSepBy P sep close ts xs r
        → ParsesSepBy P sep close ts ys s
        → (xs ≡ ys) × (r ≡ s)
    ParsesSepBy-unique [] ys ts r s p q = absurd p
    ParsesSepBy-unique (x ∷ []) [] ts r s p q = absurd q
    ParsesSepBy-unique (x ∷ []) (y ∷ []) ts r s p q =
        let e = exact ts x y close close r s (inr refl) (inr refl) p q in (ap (λ z. z ∷ []) e.0, e.2)
    ParsesSepBy-unique (x ∷ []) (y ∷ v ∷ ys) ts r s p q =
        absurd (apart (sym (exact ts x y close sep r q.0 (inr refl) (inl refl) p q.1).1))
    ParsesSepBy-unique (x ∷ u ∷ xs) ys ts r s p q =
        let k = ParsesSepBy-tail s ts p.0 x ys p.1 q in
        let h = ParsesSepBy-unique (u ∷ xs) k.0 p.0 r s p.2 k.2 in
        (ap (λ l. x ∷ l) h.0 ∙ sym k.1, h.1)

    -- If elements with their separators have been read, and what remains is no list, the whole is no list.
    pub not-ParsesSepBy-if_rest_is_none : (xs ys : List X) (ts here rest : List T)
        → AreReadSepBy ts xs here
        → ParsesNothing (ParsesSepBy P sep close here)
        → ParsesSepBy P sep close ts ys rest
        → ⊥
    not-ParsesSepBy-if_rest_is_none xs ys ts here rest b never s =
        let p = ParsesMany-peel {P = λ ts x mid. P ts x (sep ∷ mid)} (ParsesSepBy-tail rest) xs ys ts here b s in
        never p.0 rest p.2

-- ---- up to a stop

module _ {T X : Type 0} (stop : List T → Bool) (P : List T → X → List T → Type 0) where
  -- These elements have been read, none of them at a stop, and `rest` remains.
  abbrev pub AreReadTill : List T → List X → List T → Type 0
  AreReadTill ts xs rest = ParsesMany (λ ts x mid. (stop ts ≡ false) × P ts x mid) ts xs rest

  -- If elements have been read up to a stop, they are the whole list.
  pub ParsesManyTill-at_stop : (xs : List X) (ts here : List T)
      → AreReadTill ts xs here
      → stop here ≡ true
      → ParsesManyTill stop P ts xs here
  ParsesManyTill-at_stop [] ts here b h = (b, ap stop b ∙ h)
  ParsesManyTill-at_stop (y ∷ xs) ts here b h = (b.1.0, (b.0, b.1.1, ParsesManyTill-at_stop xs b.0 here b.2 h))

  module _ (one : IsDeterministic P) where
    -- If x is next, and no stop, a list up to a stop is x, followed by the elements of the list after x.
    ParsesManyTill-tail : (rest ts mid : List T) (x : X) (ys : List X)
        → (stop ts ≡ false) × P ts x mid
        → ParsesManyTill stop P ts ys rest
        → (more : List X) × (ys ≡ x ∷ more) × ParsesManyTill stop P mid more rest
    ParsesManyTill-tail rest ts mid x [] p s =
        let h = s.1 in
        let k = p.0 in
        absurd cc
    ParsesManyTill-tail rest ts mid x (y ∷ ys) p s =
        let e = one ts x y mid s.1.0 p.1 s.1.1 in (ys, cc, subst (λ l. ParsesManyTill stop P l ys rest) (sym e.1) s.1.2)

    -- The parse of a list up to a stop is unique.
    pub ParsesManyTill-unique : (xs ys : List X) (ts r s : List T)
        → ParsesManyTill stop P ts xs r
        → ParsesManyTill stop P ts ys s
        → (xs ≡ ys) × (r ≡ s)
    ParsesManyTill-unique [] [] ts r s p q = (refl, sym p.0 ∙ q.0)
    ParsesManyTill-unique [] (y ∷ ys) ts r s p q =
        let h = p.1 in
        let k = q.0 in
        absurd cc
    ParsesManyTill-unique (x ∷ xs) ys ts r s p q =
        let k = ParsesManyTill-tail s ts p.1.0 x ys (p.0, p.1.1) q in
        let h = ParsesManyTill-unique xs k.0 p.1.0 r s p.1.2 k.2 in
        (ap (λ l. x ∷ l) h.0 ∙ sym k.1, h.1)

    -- If elements have been read, a list up to the stop is these, followed by the elements of a list of what remains.
    pub ParsesManyTill-peel : (xs ys : List X) (ts here rest : List T)
        → AreReadTill ts xs here
        → ParsesManyTill stop P ts ys rest
        → (more : List X) × (ys ≡ xs ++ more) × ParsesManyTill stop P here more rest
    ParsesManyTill-peel xs ys ts here rest b s = ParsesMany-peel (ParsesManyTill-tail rest) xs ys ts here b s

-- ---- with a separator after each element

module _ {T X : Type 0} (P : List T → X → List T → Type 0) (sep close : T) where
  -- The tokens begin with an element and the separator after it.
  abbrev pub ParsesWithSep : List T → X → List T → Type 0
  ParsesWithSep ts x next = (mid : List T) × P ts x mid × (mid ≡ sep ∷ next)

  -- These elements have been read, each followed by a separator, and `rest` remains, where the closing token may follow too.
  abbrev pub AreReadSepEndBy : List T → List X → List T → Type 0
  AreReadSepEndBy ts xs rest = ParsesMany ParsesWithSep ts xs rest

  -- If the closing token follows, the list is complete: it may end after a separator.
  pub ParsesSepEndBy-at_close : (xs : List X) (ts here rest : List T)
      → AreReadSepEndBy ts xs here
      → here ≡ close ∷ rest
      → ParsesSepEndBy P sep close ts xs rest
  ParsesSepEndBy-at_close [] ts here rest b e = b ∙ e
  ParsesSepEndBy-at_close (y ∷ xs) ts here rest b e =
      (b.1.0, b.1.1, inr (b.0, b.1.2, ParsesSepEndBy-at_close xs b.0 here rest b.2 e))

  -- If an element and the closing token follow, the list is complete: the last separator may be absent.
  pub ParsesSepEndBy-last : (xs : List X) (ts here mid rest : List T) (x : X)
      → AreReadSepEndBy ts xs here
      → P here x mid
      → mid ≡ close ∷ rest
      → ParsesSepEndBy P sep close ts (xs ++ x ∷ []) rest
  ParsesSepEndBy-last [] ts here mid rest x b p e = (mid, subst (λ l. P l x mid) (sym b) p, inl (refl, e))
  ParsesSepEndBy-last (y ∷ xs) ts here mid rest x b p e =
      (b.1.0, b.1.1, inr (b.0, b.1.2, ParsesSepEndBy-last xs b.0 here mid rest x b.2 p e))

  module _ (one : IsDeterministic P) (apart : sep ≡ close → ⊥)
      (unlike : (ts r l : List T) (x : X) → ts ≡ close ∷ l → P ts x r → ⊥) where
    -- If x and a separator are next, a list is x, followed by the elements of the list after the separator.
    ParsesSepEndBy-tail : (rest ts next : List T) (x : X) (ys : List X)
        → ParsesWithSep ts x next
        → ParsesSepEndBy P sep close ts ys rest
        → (more : List X) × (ys ≡ x ∷ more) × ParsesSepEndBy P sep close next more rest
    ParsesSepEndBy-tail rest ts next x [] p s = absurd (unlike ts p.0 rest x s p.1)
    ParsesSepEndBy-tail rest ts next x (y ∷ ys) p s =
        let e = one ts x y p.0 s.0 p.1 s.1 in
        elim s.2 [
          | inl f ↦ absurd (let d = f.1 in apart cc)
          | inr f ↦
              let d = f.1 in
              let n : f.0 ≡ next = cc in
              (ys, cc, rw n at f.2)
        ]

    -- The parse of a list with separators after its elements, the last of them optional, is unique.
    pub ParsesSepEndBy-unique : (xs ys : List X) (ts r s : List T)
        → ParsesSepEndBy P sep close ts xs r
        → ParsesSepEndBy P sep close ts ys s
        → (xs ≡ ys) × (r ≡ s)
    ParsesSepEndBy-unique [] [] ts r s p q = (refl, cc)
    ParsesSepEndBy-unique [] (y ∷ ys) ts r s p q = absurd (unlike ts q.0 r y p q.1)
    ParsesSepEndBy-unique (x ∷ xs) [] ts r s p q = absurd (unlike ts p.0 s x q p.1)
    ParsesSepEndBy-unique (x ∷ xs) (y ∷ ys) ts r s p q = elim p.2 [
      | inl f ↦
          let e = one ts x y p.0 q.0 p.1 q.1 in
          elim q.2 [
            | inl g ↦
                let b = g.0 in
                let d = g.1 in
                (cc, cc)
            | inr g ↦ absurd (let d = g.1 in apart cc)
          ]
      | inr f ↦
          let k = ParsesSepEndBy-tail s ts f.0 x (y ∷ ys) (p.0, p.1, f.1) q in
          let h = ParsesSepEndBy-unique xs k.0 f.0 r s f.2 k.2 in
          (ap (λ l. x ∷ l) h.0 ∙ sym k.1, h.1)
    ]

    -- If elements have been read, the whole list is these, followed by the elements of a list of what remains.
    ParsesSepEndBy-peel : (xs ys : List X) (ts here rest : List T)
        → AreReadSepEndBy ts xs here
        → ParsesSepEndBy P sep close ts ys rest
        → (more : List X) × (ys ≡ xs ++ more) × ParsesSepEndBy P sep close here more rest
    ParsesSepEndBy-peel xs ys ts here rest b s = ParsesMany-peel {P = ParsesWithSep} (ParsesSepEndBy-tail rest) xs ys ts here b s

    -- If neither the closing token nor an element follows, there is no list.
    pub not-ParsesSepEndBy-if_no_element : (xs ys : List X) (ts here rest : List T)
        → AreReadSepEndBy ts xs here
        → (here ≡ close ∷ rest → ⊥)
        → ((y : X) (more : List X) (mid : List T) → ys ≡ xs ++ y ∷ more → P here y mid → ⊥)
        → ParsesSepEndBy P sep close ts ys rest
        → ⊥
    not-ParsesSepEndBy-if_no_element xs ys ts here rest b no_end never s =
        let p = ParsesSepEndBy-peel xs ys ts here rest b s in go p.0 p.1 p.2
      where
        -- By what follows the elements read: a further element, or the closing token.
        go : (more : List X) → ys ≡ xs ++ more → ParsesSepEndBy P sep close here more rest → ⊥
        go [] e q = no_end q
        go (y ∷ more) e q = never y more q.0 e q.1

    -- If neither a separator nor the closing token follows an element, there is no list.
    pub not-ParsesSepEndBy-if_no_punctuation : (xs ys : List X) (ts here mid rest : List T) (x : X)
        → AreReadSepEndBy ts xs here
        → P here x mid
        → ((l : List T) → mid ≡ sep ∷ l → ⊥)
        → ((l : List T) → mid ≡ close ∷ l → ⊥)
        → ParsesSepEndBy P sep close ts ys rest
        → ⊥
    not-ParsesSepEndBy-if_no_punctuation xs ys ts here mid rest x b p no_sep no_close s =
        let q = ParsesSepEndBy-peel xs ys ts here rest b s in go q.0 q.2
      where
        -- By the elements of a list of what remains: the premises exclude whatever may follow its first element, x.
        go : (more : List X) → ParsesSepEndBy P sep close here more rest → ⊥
        go [] q = unlike here mid rest x q p
        go (y ∷ more) q =
            let e = (one here x y mid q.0 p q.1).1 in elim q.2 [ inl f ↦ no_close rest (e ∙ f.1) | inr f ↦ no_sep f.0 (e ∙ f.1) ]
