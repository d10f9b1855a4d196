-- The parse of the header is unique, name by name. A step of the proof that a text has one frame; the loop of
-- `parse_header` goes by `NamesContinueAt`.
use Rattle.lw_text.proofs.Common.{◌≡◌, ℕ, zero, suc, ◌+◌, ◌∷◌, refl, ap, ◌∙◌, subst, arith, add-one, codes}
use Rattle.lw_text.proofs.Common.{TokenList, thread_name, Names}
use Rattle.lw_text.proofs.Texts.{not-bar_is_semicolon}

-- The parse of a header's names is unique, and so is the number of threads.
pub Names-unique : (k m n : ℕ) (ts r s : TokenList) → Names k m ts r → Names k n ts s → (m ≡ n) × (r ≡ s)
Names-unique k zero n ts r s p q = absurd p
Names-unique k (suc m) zero ts r s p q = absurd q
Names-unique k (suc zero) (suc zero) ts r s p q = (refl, cc)
Names-unique k (suc zero) (suc (suc n)) ts r s p q =
    absurd (let f = q.1 in not-bar_is_semicolon (let i : codes "|" ≡ codes ";" = cc in i))
Names-unique k (suc (suc m)) (suc zero) ts r s p q =
    absurd (let f = p.1 in not-bar_is_semicolon (let i : codes "|" ≡ codes ";" = cc in i))
Names-unique k (suc (suc m)) (suc (suc n)) ts r s p q =
    let i : q.0 ≡ p.0 = cc in
    let e = Names-unique (suc k) (suc m) (suc n) p.0 r s p.2 (subst (λ l. Names (suc k) (suc n) l s) i q.2) in
    (ap suc e.0, e.1)

-- After k names read from `start`, the header continues at `here`: one or more further names there make a header from `start`,
-- and each header from `start` has one or more names more than k, which parse at `here`.
pub record NamesContinueAt (start : TokenList) (k : ℕ) (here : TokenList) : Type 0 where
  pub whole_if_rest : (m : ℕ) (rest : TokenList) → Names k (suc m) here rest → Names 0 (k + suc m) start rest
  pub rest_if_whole : (n : ℕ) (rest : TokenList) → Names 0 n start rest → (m : ℕ) × (n ≡ k + suc m) × Names k (suc m) here rest

-- At the start no name has been read, and the header continues there.
pub NamesContinueAt-none_yet : (start : TokenList) → NamesContinueAt start 0 start
NamesContinueAt-none_yet start = record {
  whole_if_rest = λ m rest h. subst (λ x. Names 0 x start rest) (let e : suc m ≡ 0 + suc m = omega arith in e) h;
  rest_if_whole = λ n rest h. go n rest h;
}
  where
    -- The names from the first on are not empty, and one more than those after it.
    go : (n : ℕ) (rest : TokenList) → Names 0 n start rest → (m : ℕ) × (n ≡ 0 + suc m) × Names 0 (suc m) start rest
    go zero rest h = absurd h
    go (suc n) rest h = (n, omega arith, h)

module _ (start here : TokenList) (k : ℕ) (p : NamesContinueAt start k here) where
  module _ (l : TokenList) (e : here ≡ thread_name k ∷ l) where
    -- If one more name follows, and `|` after it, it is one more name read.
    pub NamesContinueAt-next : (next : TokenList) → l ≡ codes "|" ∷ next → NamesContinueAt start (k + 1) next
    NamesContinueAt-next next f = rw add-one (record {
      whole_if_rest =
          λ m rest h.
          subst (λ x. Names 0 x start rest) (let i : k + suc (suc m) ≡ suc k + suc m = omega arith in i)
          (p.whole_if_rest (suc m) rest (next, e ∙ ap (λ x. thread_name k ∷ x) f, h));
      rest_if_whole = λ n rest h. let o = p.rest_if_whole n rest h in go n rest o.0 o.1 o.2;
    })
      where
        -- The names from k on are the next one, and one or more after the `|`.
        go : (n : ℕ) (rest : TokenList) (m : ℕ)
            → n ≡ k + suc m
            → Names k (suc m) here rest
            → (j : ℕ) × (n ≡ suc k + suc j) × Names (suc k) (suc j) next rest
        go n rest zero i q = absurd (not-bar_is_semicolon (let j : codes "|" ≡ codes ";" = cc in j))
        go n rest (suc m) i q =
            let g = q.1 in
            let j : q.0 ≡ next = cc in
            (m, omega (arith, i), rw j at q.2)
