-- The end of a comment is unique, and a loop that counts the open inner comments finds it. The loop of
-- `after_comment` goes by `CommentContinuesAt`.
use Rattle.lw_text.proofs.Common.{byte, ◌≡◌, ℕ, zero, suc, ◌+◌, ◌-◌, ◌<◌, ◌≤◌, true, false, [], ◌∷◌, length}
use Rattle.lw_text.proofs.Common.{refl, sym, ap, subst, arith, add-one, sub-one, Bytes, IsSuffix, begins_pair}
use Rattle.lw_text.proofs.Common.{begins_comment_sign, Comment, closed, nested, other}
use Rattle.lw_text.proofs.Lists.{IsSuffix-join}

-- The text closes n open comments in sequence, and `rest` remains.
abbrev pub Closes : ℕ → Bytes → Bytes → Type 0
Closes zero text rest = text ≡ rest
Closes (suc n) text rest = (mid : Bytes) × Comment text mid × Closes n mid rest

-- If an open comment continues with `(*`, an inner comment follows, after which the comment continues.
Comment-open_inv : {ts rest : Bytes}
    → Comment ts rest
    → (text : Bytes)
    → ts ≡ byte "(" ∷ byte "*" ∷ text
    → (inner : Bytes) × Comment text inner × Comment inner rest
Comment-open_inv closed text e = absurd (let h : false ≡ true = ap (begins_pair (byte "(") (byte "*")) e in cc)
Comment-open_inv (nested {text = t} {inner} c d) text e = (inner, rw (let k : t ≡ text = cc in k) at c, d)
Comment-open_inv (other {b} {text = t} m c) text e = absurd (let h = ap begins_comment_sign e in cc)

-- If an open comment continues with `*)`, it ends after that.
Comment-close_inv : {ts rest : Bytes} → Comment ts rest → (text : Bytes) → ts ≡ byte "*" ∷ byte ")" ∷ text → text ≡ rest
Comment-close_inv closed text e = cc
Comment-close_inv (nested c d) text e = absurd (let h : true ≡ false = ap (begins_pair (byte "(") (byte "*")) e in cc)
Comment-close_inv (other {b} {text = t} m c) text e = absurd (let h = ap begins_comment_sign e in cc)

-- If an open comment continues with neither `(*` nor `*)`, it continues after its next byte.
Comment-other_inv : {ts rest : Bytes}
    → Comment ts rest
    → (b : ℕ) (text : Bytes)
    → ts ≡ b ∷ text
    → begins_comment_sign (b ∷ text) ≡ false
    → Comment text rest
Comment-other_inv closed b text e m = absurd (let h : true ≡ begins_comment_sign (b ∷ text) = ap begins_comment_sign e in cc)
Comment-other_inv (nested c d) b text e m =
    absurd (let h : true ≡ begins_comment_sign (b ∷ text) = ap begins_comment_sign e in cc)
Comment-other_inv {rest = rest} (other {text = t} n c) b text e m = rw (let k : t ≡ text = cc in k) at c

-- The end of a comment is unique.
pub Comment-unique : {text a b : Bytes} → Comment text a → Comment text b → a ≡ b
Comment-unique (closed {rest}) d = Comment-close_inv d rest refl
Comment-unique {b = end} (nested {text} c e) d =
    let o = Comment-open_inv d text refl in Comment-unique e (subst (λ x. Comment x end) (sym (Comment-unique c o.1)) o.2)
Comment-unique (other {b} {text} m c) d = Comment-unique c (Comment-other_inv d b text refl m)

-- A comment takes at least one byte.
pub Comment-shorter : {text rest : Bytes} → Comment text rest → length rest < length text
Comment-shorter closed = omega arith
Comment-shorter (nested c d) = omega (arith, Comment-shorter c, Comment-shorter d)
Comment-shorter (other m c) = omega (arith, Comment-shorter c)

-- If a text begins with neither `(*` nor `*)`, it begins with no sign of a comment.
not-begins_comment_sign : (text : Bytes)
    → begins_pair (byte "(") (byte "*") text ≡ false
    → begins_pair (byte "*") (byte ")") text ≡ false
    → begins_comment_sign text ≡ false
not-begins_comment_sign text p q = rw (p, q)

-- The invariant of the loop over a comment's bytes: the comment ends exactly where the rest closes it and the `depth` inner comments that
-- are open, and the rest is shorter than the bytes by `depth` at least. So the count `depth` does not overflow.
pub record CommentContinuesAt (bytes : Bytes) (depth : ℕ) (rest : Bytes) : Type 0 where
  pub whole_if_rest : (end : Bytes) → Closes (suc depth) rest end → Comment bytes end
  pub rest_if_whole : (end : Bytes) → Comment bytes end → Closes (suc depth) rest end
  pub bound : depth + length rest ≤ length bytes

-- If the rest begins with `(*`, the invariant holds after it, with one more open comment.
pub CommentContinuesAt-after_open : {bytes rest after : Bytes} {depth : ℕ}
    → CommentContinuesAt bytes depth rest
    → rest ≡ byte "(" ∷ byte "*" ∷ after
    → CommentContinuesAt bytes (depth + 1) after
CommentContinuesAt-after_open {bytes} {rest} {after} {depth} p e = rw add-one (record {
  whole_if_rest = λ end c. p.whole_if_rest end (let d = c.2 in (d.0, rw e (nested c.1 d.1), d.2));
  rest_if_whole = λ end c.
      let d = p.rest_if_whole end c in
      let o = Comment-open_inv d.1 after e in
      (o.0, o.1, (d.0, o.2, d.2));
  bound = omega (arith, p.bound, ap length e);
})

-- If the rest begins with `*)`, and an inner comment is open, the invariant holds after it, with one fewer open.
pub CommentContinuesAt-after_close : {bytes rest after : Bytes} {depth : ℕ}
    → CommentContinuesAt bytes depth rest
    → rest ≡ byte "*" ∷ byte ")" ∷ after
    → (depth ≡ 0 → ⊥)
    → CommentContinuesAt bytes (depth - 1) after
CommentContinuesAt-after_close {depth = zero} p e ne = absurd (ne refl)
CommentContinuesAt-after_close {bytes} {rest} {after} {depth = suc depth} p e ne = rw sub-one (record {
  whole_if_rest = λ end c. p.whole_if_rest end (after, rw e closed, c);
  rest_if_whole = λ end c.
      let d = p.rest_if_whole end c in
      let o = Comment-close_inv d.1 after e in
      rw (← o) at d.2;
  bound = omega (arith, p.bound, ap length e);
})

-- If the rest begins with `*)`, and no inner comment is open, the comment ends after it.
pub Comment-at_close : {bytes rest after : Bytes} {depth : ℕ}
    → CommentContinuesAt bytes depth rest
    → rest ≡ byte "*" ∷ byte ")" ∷ after
    → depth ≡ 0
    → Comment bytes after
Comment-at_close {bytes} {rest} {after} {depth} p e z = p.whole_if_rest after (after, rw e closed, rw z refl)

-- If the rest begins with neither `(*` nor `*)`, the invariant holds after its first byte, with as many open comments.
pub CommentContinuesAt-after_other : {bytes rest next : Bytes} {depth b : ℕ}
    → CommentContinuesAt bytes depth rest
    → rest ≡ b ∷ next
    → begins_pair (byte "(") (byte "*") rest ≡ false
    → begins_pair (byte "*") (byte ")") rest ≡ false
    → CommentContinuesAt bytes depth next
CommentContinuesAt-after_other {bytes} {rest} {next} {depth} {b} p e m n =
    let mark : begins_comment_sign (b ∷ next) ≡ false =
    subst (λ x. begins_comment_sign x ≡ false) e (not-begins_comment_sign rest m n) in
    record {
      whole_if_rest = λ end c. p.whole_if_rest end (c.0, rw e (other mark c.1), c.2);
      rest_if_whole = λ end c. let d = p.rest_if_whole end c in (d.0, Comment-other_inv d.1 b next e mark, d.2);
      bound = omega (arith, p.bound, ap length e);
    }

-- What follows a comment is a suffix of the text.
pub Comment-suffix : {text rest : Bytes} → Comment text rest → IsSuffix text rest
Comment-suffix closed = (byte "*" ∷ byte ")" ∷ [], refl)
Comment-suffix (nested c d) = IsSuffix-join (byte "(" ∷ byte "*" ∷ [], refl) (IsSuffix-join (Comment-suffix c) (Comment-suffix d))
Comment-suffix (other {b} m c) = IsSuffix-join (b ∷ [], refl) (Comment-suffix c)
