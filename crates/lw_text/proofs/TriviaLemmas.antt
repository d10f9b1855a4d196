-- The end of blanks and comments is unique, and a loop finds it. The loop of `after_trivia` goes by
-- `TriviaContinuesAt`.
use Rattle.lw_text.proofs.Common.{byte, ◌≡◌, ℕ, true, false, ◌||◌, [], ◌∷◌, ◌++◌, ◌≤◌, length, length-append}
use Rattle.lw_text.proofs.Common.{arith, refl, sym, ap, ◌∙◌, subst, AllByRecursion, HoldsOfNothing, Bytes}
use Rattle.lw_text.proofs.Common.{is_blank, first_byte_is, begins_pair, begins_trivia, Comment, Trivia, blank}
use Rattle.lw_text.proofs.Common.{comment, IsSuffix}
use Rattle.lw_text.specs.Tokens.{none}
use Rattle.lw_text.proofs.Comments.{Comment-unique, Comment-suffix}
use Rattle.lw_text.proofs.Lists.{IsSuffix-join}

-- If trivia begins with a comment, and none begins after the trivia, it continues after the comment.
Trivia-comment_inv : {ts rest : Bytes}
    → Trivia ts rest
    → (text : Bytes)
    → ts ≡ byte "(" ∷ byte "*" ∷ text
    → begins_trivia rest ≡ false
    → (after : Bytes) × Comment text after × Trivia after rest
Trivia-comment_inv (none {rest}) text e stop = absurd (let h : begins_trivia rest ≡ true = ap begins_trivia e in cc)
Trivia-comment_inv (blank {b} t g) text e stop = absurd (let h : is_blank b ≡ false = ap (first_byte_is is_blank) e in cc)
Trivia-comment_inv (comment {text = t} {after} c g) text e stop = (after, rw (let k : t ≡ text = cc in k) at c, g)

-- A text that begins with a blank begins with trivia.
not-blank_without_trivia : (l : Bytes) → first_byte_is is_blank l ≡ true → begins_trivia l ≡ false → ⊥
not-blank_without_trivia l p q = let h : true || begins_pair (byte "(") (byte "*") l ≡ false = rw p at q in cc

-- If trivia begins with a blank, and none begins after the trivia, it continues after the blank.
Trivia-blank_inv : {ts rest : Bytes}
    → Trivia ts rest
    → (b : ℕ) (text : Bytes)
    → ts ≡ b ∷ text
    → is_blank b ≡ true
    → begins_trivia rest ≡ false
    → Trivia text rest
Trivia-blank_inv (none {rest}) b text e test stop =
    absurd (not-blank_without_trivia rest (ap (first_byte_is is_blank) e ∙ test) stop)
Trivia-blank_inv {rest = rest} (blank {text = t} h g) b text e test stop = rw (let k : t ≡ text = cc in k) at g
Trivia-blank_inv (comment c g) b text e test stop = absurd (let h : false ≡ is_blank b = ap (first_byte_is is_blank) e in cc)

-- If no trivia begins a text, the rest after its trivia is the text.
Trivia-none_inv : {text rest : Bytes} → Trivia text rest → begins_trivia text ≡ false → text ≡ rest
Trivia-none_inv none stop = refl
Trivia-none_inv (blank {b} {text} h g) stop = absurd (not-blank_without_trivia (b ∷ text) h stop)
Trivia-none_inv (comment c g) stop = absurd cc

-- The end of blanks and comments is unique, if none follow.
pub Trivia-unique : {text a b : Bytes} → Trivia text a → Trivia text b → begins_trivia a ≡ false → begins_trivia b ≡ false → a ≡ b
Trivia-unique none g p q = Trivia-none_inv g p
Trivia-unique (blank {b} {text} h f) g p q = Trivia-unique f (Trivia-blank_inv g b text refl h q) p q
Trivia-unique {b = end} (comment {text} {after} c f) g p q =
    let o = Trivia-comment_inv g text refl q in Trivia-unique f (subst (λ x. Trivia x end) (sym (Comment-unique c o.1)) o.2) p q

-- What follows trivia is a suffix of the text.
pub Trivia-suffix : {text rest : Bytes} → Trivia text rest → IsSuffix text rest
Trivia-suffix none = ([], refl)
Trivia-suffix (blank {b} h g) = IsSuffix-join (b ∷ [], refl) (Trivia-suffix g)
Trivia-suffix (comment c g) = IsSuffix-join (byte "(" ∷ byte "*" ∷ [], refl) (IsSuffix-join (Comment-suffix c) (Trivia-suffix g))

-- What follows trivia is no longer than the text.
pub Trivia-shorter : {text rest : Bytes} → Trivia text rest → length rest ≤ length text
Trivia-shorter {rest = rest} g = let s = Trivia-suffix g in omega (arith, ap length s.1, length-append s.0 rest)

-- ---- what the reader of trivia must prove

-- The invariant of the loop over trivia: the trivia at the start of the bytes ends where that at the start of the rest does, if no trivia
-- begins there.
pub record TriviaContinuesAt (bytes rest : Bytes) : Type 0 where
  pub whole_if_rest : (end : Bytes) → Trivia rest end → Trivia bytes end
  pub rest_if_whole : (end : Bytes) → begins_trivia end ≡ false → Trivia bytes end → Trivia rest end

-- If the rest begins with blanks, the invariant holds after them.
pub TriviaContinuesAt-after_blanks : (bs bytes text rest : Bytes)
    → TriviaContinuesAt bytes text
    → text ≡ bs ++ rest
    → AllByRecursion (λ b. is_blank b ≡ true) bs
    → TriviaContinuesAt bytes rest
TriviaContinuesAt-after_blanks [] bytes text rest s e all = subst (λ x. TriviaContinuesAt bytes x) e s
TriviaContinuesAt-after_blanks (b ∷ bs) bytes text rest s e all =
    let next : TriviaContinuesAt bytes (bs ++ rest) = record {
      whole_if_rest = λ end g. s.whole_if_rest end (rw e (blank all.0 g));
      rest_if_whole = λ end stop g. Trivia-blank_inv (s.rest_if_whole end stop g) b (bs ++ rest) e all.0 stop;
    } in
    TriviaContinuesAt-after_blanks bs bytes (bs ++ rest) rest next refl all.1

-- At the start, where nothing has been passed, the invariant holds.
pub TriviaContinuesAt-start : (bytes : Bytes) → TriviaContinuesAt bytes bytes
TriviaContinuesAt-start bytes = record { whole_if_rest = λ end g. g; rest_if_whole = λ end stop g. g }

-- If the rest begins with a comment, the invariant holds after it.
pub TriviaContinuesAt-after_comment : {bytes rest inner after : Bytes}
    → TriviaContinuesAt bytes rest
    → rest ≡ byte "(" ∷ byte "*" ∷ inner
    → Comment inner after
    → TriviaContinuesAt bytes after
TriviaContinuesAt-after_comment {bytes} {rest} {inner} {after} s e c = record {
  whole_if_rest = λ end g. s.whole_if_rest end (rw e (comment c g));
  rest_if_whole =
      λ end stop g. let o = Trivia-comment_inv (s.rest_if_whole end stop g) _ e stop in rw (Comment-unique o.1 c) at o.2;
}

-- If the rest begins with a comment that is not closed, the bytes have no trivia after which none begins.
pub not-Trivia-if_comment_is_open : {bytes rest inner : Bytes}
    → TriviaContinuesAt bytes rest
    → rest ≡ byte "(" ∷ byte "*" ∷ inner
    → HoldsOfNothing (Comment inner)
    → (end : Bytes)
    → begins_trivia end ≡ false
    → Trivia bytes end
    → ⊥
not-Trivia-if_comment_is_open {bytes} {rest} {inner} s e never end stop g =
    let o = Trivia-comment_inv (s.rest_if_whole end stop g) inner e stop in never o.0 o.1

-- What has been passed is trivia.
pub Trivia-TriviaContinuesAt : {bytes rest : Bytes} → TriviaContinuesAt bytes rest → Trivia bytes rest
Trivia-TriviaContinuesAt {bytes} {rest} s = s.whole_if_rest rest none
